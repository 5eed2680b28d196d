-- The records' tests as facts: what stands in a list, and what holds of each part of one.
use Rattle.std.specs.Prelude.{◌≡◌, refl, List, [], ◌∷◌, Bool, true, false, ◌||◌, ℕ, eqb}
use Rattle.std.proofs.Common.{inl, inr, eqb-true}
use Rattle.std.proofs.lemmas.Bool.{false≢true}
use Rattle.records.specs.Gate.RecordRulesLaws.{and_both}
use Rattle.records.specs.Format.Formed.{All}
use Rattle.records.specs.Gate.RecordRules.{every, member}
use Rattle.terms.specs.Theory.Variables.{Among}

pub member_among : (x : ℕ) (l : List ℕ) → member x l ≡ true → Among x l
member_among x [] h = absurd (false≢true h)
member_among x (y ∷ l) h = go (eqb x y) refl h (member_among x l)
  where
    go : (b : Bool) → eqb x y ≡ b → (b || member x l) ≡ true → (member x l ≡ true → Among x l) → Among x (y ∷ l)
    go true e k ih = inl (eqb-true x y e)
    go false e k ih = inr (ih k)

pub every_true : (f : ℕ → Bool) (l : List ℕ) → ((x : ℕ) → Among x l → f x ≡ true) → every f l ≡ true
every_true f [] h = refl
every_true f (x ∷ l) h = rw (h x (inl refl)) (every_true f l (λ y k. h y (inr k)))

pub every_all : {A : Type 0} (f : A → Bool) (l : List A) → every f l ≡ true → All (λ x. f x ≡ true) l
every_all f [] h = tt
every_all f (x ∷ l) h = ((and_both (f x) (every f l) h).0, every_all f l (and_both (f x) (every f l) h).1)

pub all_among : (Φ : ℕ → Type 0) (l : List ℕ) → All Φ l → (x : ℕ) → Among x l → Φ x
all_among Φ [] h x k = absurd k
all_among Φ (y ∷ l) h x (inl e) = rw e h.0
all_among Φ (y ∷ l) h x (inr k) = all_among Φ l h.1 x k
