-- Laws of tables that are filled entry by entry.
use Rattle.std.specs.Prelude.{◌≡◌, refl, List, [], ◌∷◌, ℕ, zero, suc, ◌+◌, ◌≤◌, ◌<◌, length, drop, get_or, set}
use Rattle.std.proofs.Common.{ap, ◌∙◌, add-one, arith, below_more, length-drop, get_or-set_same, get_or-set_other, drop-cons}
use Rattle.reader.specs.Items.Items.{Item}
use Rattle.reader.specs.Items.Words.{roles_of, AgreesBy}

-- no entry yet
pub agrees_none : {A : Type 0} (d : A) (table l : List A) → AgreesBy d table l 0
unfolding AgreesBy
agrees_none d table l j h = absurd (omega arith)

-- one entry more
pub agrees_more : {A : Type 0} (d : A) (table l : List A) (n : ℕ) (v : A) → n < length table → AgreesBy d table l n → v ≡ get_or l n d → AgreesBy d (set table n v) l (n + 1)
unfolding AgreesBy
agrees_more d table l n v h a e =
    below_more (λ k. get_or (set table n v) k d ≡ get_or l k d) n (λ k i. get_or-set_other table n k v d (λ q. omega arith) ∙ a k i) (get_or-set_same table n v d h ∙ e)

-- what is left behind n elements: the first of it, and the rest
module _ {A : Type 0} where
  pub drop_more : (l : List A) (n : ℕ) (x : A) (r : List A) → drop n l ≡ x ∷ r → n < length l
  drop_more l n x r e = omega (arith, length-drop n l, ap length e)

  pub drop_none : (l : List A) (n : ℕ) → drop n l ≡ [] → length l ≤ n
  drop_none l n e = omega (arith, length-drop n l, ap length e)

  pub drop_head : (l : List A) (n : ℕ) (x : A) (r : List A) (d : A) → drop n l ≡ x ∷ r → get_or l n d ≡ x
  drop_head l n x r d e = let q = drop-cons l n d (drop_more l n x r e) in cc

  pub drop_rest : (l : List A) (n : ℕ) (x : A) (r : List A) → drop n l ≡ x ∷ r → drop (n + 1) l ≡ r
  drop_rest l n x r e = let q = drop-cons l n x (drop_more l n x r e) in rw (add-one n) (cc)

-- the roles behind n items
pub drop_roles : (is : List Item) (n : ℕ) → drop n (roles_of is) ≡ roles_of (drop n is)
unfolding roles_of
drop_roles is zero = refl
drop_roles [] (suc n) = refl
drop_roles (i ∷ is) (suc n) = drop_roles is n
