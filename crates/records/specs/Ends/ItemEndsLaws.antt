-- Laws of where items end: ancestors, pairs, bets, definitions and clauses by their heads, one thing after another, and a row item by item.
use Rattle.std.specs.Prelude.{ℕ, suc, ◌+◌, ◌-◌, ◌<◌, ◌≡◌, drop, Option, Some, None}
use Rattle.std.proofs.Common.{add-zero, add_assoc, arith, ◌∙◌, drop-drop}
use Rattle.std.proofs.Math.Path.{refl, sym, ap}
use mathlib.Core.List.{List, ◌∷◌}
use Rattle.records.specs.Format.Heads.{ancestor_head_at, bet_head_at, word_at, definition_head_at, clause_head_at}
use Rattle.records.specs.Format.Reader.{Read, Parts, also, read}
use Rattle.records.specs.Format.Reader.Read.{unread, found}
use Rattle.records.specs.Format.Items.{Reader, then_read, made, many, read_goal, ancestor_by, read_ancestor, binding_by, read_binding, bet_by, read_bet, definition_by, read_definition, clause_by, read_clause}
use Rattle.records.specs.Ends.Traversal.{place_of, end_of, end_at}
use Rattle.records.specs.Ends.EndLaws.{end_read, onward}
use Rattle.records.specs.Ends.ItemEnds.{item_reader, item_end, items_end}
use Rattle.records.specs.declared.ends.Item.{Item}
use Rattle.records.specs.declared.heads.AncestorHead.{AncestorHead}
use Rattle.records.specs.declared.heads.AncestorHead.TheVariants.{Called, InConj, InDisj}
use Rattle.records.specs.declared.heads.BetHead.{BetHead}
use Rattle.records.specs.declared.heads.BetHead.TheVariants.{Unifier, Or, By}
use Rattle.records.specs.declared.heads.Signature.{Signature}

-- what follows a head of k bytes ends where it ends from there on
place_also : {A B : Type 0} (f : A → B) (at k : ℕ) (o : Read A) → place_of at (also f k o) ≡ place_of (at + k) o
place_also f at k unread = refl
place_also f at k (found a n) = ap Some (sym (add_assoc at k n))

place_made : {A B : Type 0} (f : A → B) (at : ℕ) (o : Read A) → place_of at (made f o) ≡ place_of at o
place_made f at unread = refl
place_made f at (found a n) = refl

module _ (s : List ℕ) (at : ℕ) where
  parts_place : {A : Type 0} (f : Parts → A) (k t g : ℕ) → place_of at (also f k (read (drop k (drop at s)) t g)) ≡ end_at s (at + k) t g
  parts_place f k t g = place_also f at k (read (drop k (drop at s)) t g) ∙ ap (λ (l : List ℕ). place_of (at + k) (read l t g)) (drop-drop k at s) ∙ sym (end_read s (at + k) t g)

  -- one goal
  pub goal_ends : end_of read_goal s at ≡ end_at s at 0 1
  unfolding end_of read_goal
  goal_ends = place_made _ at (read (drop at s) 0 1) ∙ sym (end_read s at 0 1)

  abbrev ancestor_end_by : Option AncestorHead → Option ℕ
  ancestor_end_by (Some (Called p k)) = end_at s (at + 4) k 0
  ancestor_end_by (Some (InConj k)) = end_at s (at + 2) 0 2
  ancestor_end_by (Some (InDisj k)) = end_at s (at + 2) 0 2
  ancestor_end_by None = None

  ancestor_place : (i : Option AncestorHead) → place_of at (ancestor_by i (drop at s)) ≡ ancestor_end_by i
  ancestor_place (Some (Called p k)) = parts_place _ 4 k 0
  ancestor_place (Some (InConj k)) = parts_place _ 2 0 2
  ancestor_place (Some (InDisj k)) = parts_place _ 2 0 2
  ancestor_place None = refl

  pub ancestor_ends : {h : Option AncestorHead} → h ≡ ancestor_head_at s at → (i : Option AncestorHead) → h ≡ i → ancestor_end_by i ≡ end_of read_ancestor s at
  unfolding end_of read_ancestor ancestor_head_at
  ancestor_ends is i e = sym (ancestor_place i) ∙ ap (λ (j : Option AncestorHead). place_of at (ancestor_by j (drop at s))) (sym e ∙ is)

  abbrev binding_end_by : Option ℕ → Option ℕ
  binding_end_by (Some v) = end_at s (at + 2) 1 0
  binding_end_by None = None

  binding_place : (i : Option ℕ) → place_of at (binding_by i (drop at s)) ≡ binding_end_by i
  binding_place (Some v) = parts_place _ 2 1 0
  binding_place None = refl

  pub binding_ends : {h : Option ℕ} → h ≡ word_at s at → (i : Option ℕ) → h ≡ i → binding_end_by i ≡ end_of read_binding s at
  unfolding end_of read_binding word_at
  binding_ends is i e = sym (binding_place i) ∙ ap (λ (j : Option ℕ). place_of at (binding_by j (drop at s))) (sym e ∙ is)

  abbrev bet_end_by : Option BetHead → Option ℕ
  bet_end_by (Some (Unifier n)) = end_of (many read_binding n) s (at + 3)
  bet_end_by (Some (Or k)) = Some (at + 2)
  bet_end_by (Some By) = end_at s (at + 1) 0 1
  bet_end_by None = None

  bet_place : (i : Option BetHead) → place_of at (bet_by i (drop at s)) ≡ bet_end_by i
  unfolding end_of
  bet_place (Some (Unifier n)) = place_also _ at 3 (many read_binding n (drop 3 (drop at s))) ∙ ap (λ (l : List ℕ). place_of (at + 3) (many read_binding n l)) (drop-drop 3 at s)
  bet_place (Some (Or k)) = refl
  bet_place (Some By) = parts_place _ 1 0 1
  bet_place None = refl

  pub bet_ends : {h : Option BetHead} → h ≡ bet_head_at s at → (i : Option BetHead) → h ≡ i → bet_end_by i ≡ end_of read_bet s at
  unfolding end_of read_bet bet_head_at
  bet_ends is i e = sym (bet_place i) ∙ ap (λ (j : Option BetHead). place_of at (bet_by j (drop at s))) (sym e ∙ is)

  abbrev definition_end_by : Option Signature → Option ℕ
  definition_end_by (Some d) = end_at s (at + 4) 0 1
  definition_end_by None = None

  definition_place : (i : Option Signature) → place_of at (definition_by i (drop at s)) ≡ definition_end_by i
  definition_place (Some d) = parts_place _ 4 0 1
  definition_place None = refl

  pub definition_ends : {h : Option Signature} → h ≡ definition_head_at s at → (i : Option Signature) → h ≡ i → definition_end_by i ≡ end_of read_definition s at
  unfolding end_of read_definition definition_head_at
  definition_ends is i e = sym (definition_place i) ∙ ap (λ (j : Option Signature). place_of at (definition_by j (drop at s))) (sym e ∙ is)

  abbrev clause_end_by : Option Signature → Option ℕ
  clause_end_by (Some d) = end_at s (at + 4) d.arity 1
  clause_end_by None = None

  clause_place : (i : Option Signature) → place_of at (clause_by i (drop at s)) ≡ clause_end_by i
  clause_place (Some d) = parts_place _ 4 d.arity 1
  clause_place None = refl

  pub clause_ends : {h : Option Signature} → h ≡ clause_head_at s at → (i : Option Signature) → h ≡ i → clause_end_by i ≡ end_of read_clause s at
  unfolding end_of read_clause clause_head_at
  clause_ends is i e = sym (clause_place i) ∙ ap (λ (j : Option Signature). place_of at (clause_by j (drop at s))) (sym e ∙ is)

-- one thing, and then another one from where the first ends
module _ {A B C : Type 0} (f : A → B → C) (ra : Reader A) (rb : Reader B) (s : List ℕ) (at : ℕ) where
  pub after_ends : place_of at (then_read f (ra (drop at s)) rb (drop at s)) ≡ onward (end_of ra s at) (λ e. end_of rb s e)
  unfolding end_of
  after_ends = go (ra (drop at s))
    where
      go : (o : Read A) → place_of at (then_read f o rb (drop at s)) ≡ onward (place_of at o) (λ e. place_of e (rb (drop e s)))
      go unread = refl
      go (found a n) = place_also (f a) at n (rb (drop n (drop at s))) ∙ ap (λ (l : List ℕ). place_of (at + n) (rb l)) (drop-drop n at s)

module _ {A : Type 0} (r : Reader A) (s : List ℕ) where
  many_ends : (n at : ℕ) → end_of (many r (suc n)) s at ≡ onward (end_of r s at) (λ e. end_of (many r n) s e)
  unfolding many end_of
  many_ends n at = after_ends ◌∷◌ r (many r n) s at

  pub none_ends : (n at : ℕ) → n ≡ 0 → end_of (many r n) s at ≡ Some at
  unfolding many end_of
  none_ends n at e = rw e (ap Some (add-zero at))

  -- f is where the first of n ends
  pub more_ends : {f : Option ℕ} {e : ℕ} (n at : ℕ) → f ≡ end_of r s at → f ≡ Some e → 0 < n → end_of (many r n) s at ≡ end_of (many r (n - 1)) s e
  more_ends {f} {e} n at is q h =
      let w : suc (n - 1) ≡ n = omega arith in
      let x : end_of r s at ≡ Some e = sym is ∙ q in
      rw (x, w) at (many_ends (n - 1) at)

  pub never_ends : {f : Option ℕ} (n at : ℕ) → f ≡ end_of r s at → f ≡ None → 0 < n → end_of (many r n) s at ≡ None
  never_ends n at is q h =
      let w : suc (n - 1) ≡ n = omega arith in
      let x : end_of r s at ≡ None = sym is ∙ q in
      rw (x, w) at (many_ends (n - 1) at)

module _ (s : List ℕ) (i : Item) where
  pub no_items : (n at : ℕ) → n ≡ 0 → items_end i n s at ≡ Some at
  unfolding items_end
  no_items = none_ends (item_reader i) s

  pub more_items : {f : Option ℕ} {e : ℕ} (n at : ℕ) → f ≡ item_end i s at → f ≡ Some e → 0 < n → items_end i n s at ≡ items_end i (n - 1) s e
  unfolding item_end items_end
  more_items = more_ends (item_reader i) s

  pub never_items : {f : Option ℕ} (n at : ℕ) → f ≡ item_end i s at → f ≡ None → 0 < n → items_end i n s at ≡ None
  unfolding item_end items_end
  never_items = never_ends (item_reader i) s
