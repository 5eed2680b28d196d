-- What the code for the record rules returns, from what a head or a callee said.
use Rattle.std.specs.Prelude.{Option, Some, None}
use Prim.Native.Nat.{ℕ, ◌+◌, ◌-◌, ◌*◌, ◌≤◌, ◌<◌}
use native.Mathlib.Numerals.{add-one}
use native.Mathlib.Omega.{arith}
use mathlib.Core.Path.{◌≡◌, refl, sym, ap, ◌∙◌}
use mathlib.Core.Bool.{Bool, true, false, not, ◌&&◌}
use mathlib.Core.List.{List, [], ◌∷◌, ◌++◌}
use lib.Dec.{leb}
use lib.ListN.{drop, replicate}
use Rattle.records.specs.Format.Syntax.{Binding, Definition}
use Rattle.records.specs.Format.Syntax.Definition.{definition}
use Rattle.records.specs.Format.Formed.{All, BindingFormed}
use Rattle.records.specs.Gate.RecordRules.{every, bound, free, rising_from, key, keys, unifier_rules, definition_rules, clause_rules}
use Rattle.records.specs.Format.Never.{never}
use Rattle.records.specs.Gate.RecordRulesLaws.{every_append, rising_next, rising_not}
use Rattle.records.specs.Format.Heads.{word_at, definition_head, definition_head_at, clause_head_at}
use Rattle.records.specs.Format.HeadLaws.{Known, bytes_all, bytes_drop}
use Rattle.records.specs.Format.Reader.{Read, Parts, also, read}
use Rattle.records.specs.Format.Reader.Read.{unread, found}
use Rattle.records.specs.Format.Items.{Reader, many, read_binding, first_goal, read_definition, read_clause}
use Rattle.records.specs.Format.ItemLaws.{many_exact}
use Rattle.records.specs.Format.Exact.{binding_exact}
use Rattle.records.specs.Gate.Sets.{is_marked, marked, all_marked}
use Rattle.records.specs.Gate.SetLaws.{unifier_rules_marked}
use Rattle.records.specs.Ends.Traversal.{traverse, end_of}
use Rattle.records.specs.Ends.Steps.{On, met}
use Rattle.records.specs.Gate.KeptLaws.{pair_read}
use Rattle.records.specs.Gate.Rows.{Ends, holds, kept_at, row_of, row_at}
use Rattle.records.specs.Gate.RowsLaws.{row_none, row_more, row_first}
use Rattle.records.specs.Ends.ItemEndsLaws.{binding_ends, definition_ends, clause_ends}
use Rattle.records.specs.Ends.HeadRoomLaws.{word_room, definition_room}
use Rattle.records.specs.Gate.Ranks.{ranked_reader, ranks, signature_rank, rank_at, ranked_end, ranks_end, ranks_rise}
use Rattle.records.specs.declared.rules.Ranked.{Ranked}
use Rattle.records.specs.declared.rules.Ranked.TheVariants.{Pairs, Definitions}
use Rattle.records.specs.declared.heads.BetHead.TheVariants.{Unifier, Or, By}
use Rattle.records.specs.declared.heads.Signature.{Signature}

-- none of the variables of a list is marked
abbrev pub unmarked : List ℕ → List ℕ → Bool
unmarked marks l = every (λ x. not (is_marked marks x)) l

pub met_marked : (marks : List ℕ) {l k : List ℕ} {x : ℕ} {b : Bool} → l ≡ x ∷ k → b ≡ is_marked marks x → b ≡ true → unmarked marks l ≡ false
met_marked marks e is t = rw (e, ← is, t)

pub met_unmarked : (marks : List ℕ) {l k : List ℕ} {x : ℕ} {b : Bool} → l ≡ x ∷ k → b ≡ is_marked marks x → b ≡ false → unmarked marks l ≡ unmarked marks k
met_unmarked marks e is t = rw (e, ← is, t)

pub at_most : {a b : ℕ} (n : ℕ) → a ≡ b → leb a n ≡ leb b n
at_most {a} {b} n e = ap (λ (x : ℕ). leb x n) e

-- where a definition, or a clause, was found, it has a head
pub no_definition : (s : List ℕ) (at : ℕ) {h : Option Signature} {b : Bool} → h ≡ definition_head_at s at → h ≡ None → Ends (end_of read_definition s at) → b ≡ kept_at definition_rules read_definition s at
no_definition s at is e w = absurd (rw (sym (definition_ends s at is None e)) at w)

pub no_clause : (s : List ℕ) (at : ℕ) {h : Option Signature} {b : Bool} → h ≡ clause_head_at s at → h ≡ None → Ends (end_of read_clause s at) → b ≡ kept_at clause_rules read_clause s at
no_clause s at is e w = absurd (rw (sym (clause_ends s at is None e)) at w)

-- a row that was found does not break off
pub no_break : {A P : Type 0} (r : Reader A) (s : List ℕ) (n at : ℕ) {f : Option ℕ} → 0 < n → Ends (end_of (many r n) s at) → f ≡ end_of r s at → f ≡ None → P
no_break r s n at z w is q = absurd (rw (sym is ∙ q) at (row_first r s n at z w))

pub no_pair : {P : Type 0} (s : List ℕ) (n at : ℕ) {h : Option ℕ} → 0 < n → Ends (end_of (many read_binding n) s at) → h ≡ word_at s at → h ≡ None → P
no_pair s n at z w is q = no_break read_binding s n at z w (binding_ends s at is None q) refl

no_key : {P : Type 0} (s : List ℕ) (n at : ℕ) {h : Option Signature} → 0 < n → Ends (end_of (many read_definition n) s at) → h ≡ definition_head_at s at → h ≡ None → P
no_key s n at z w is q = no_break read_definition s n at z w (definition_ends s at is None q) refl

-- the first of some pairs, and the rest
pub record PairsNext (s : List ℕ) (n at v e : ℕ) : Type 0 where
  pub bound_next : bound (row_at read_binding n s at) ≡ v ∷ bound (row_at read_binding (n - 1) s e)
  pub free_next : free (row_at read_binding n s at) ≡ met (traverse s (at + 2) 1 0) ++ free (row_at read_binding (n - 1) s e)
  pub through : On (traverse s (at + 2) 1 0)
  pub rest : Ends (end_of (many read_binding (n - 1)) s e)

pub pairs_next : (s : List ℕ) (n at : ℕ) {h : Option ℕ} {v : ℕ} {f : Option ℕ} {e : ℕ} → 0 < n → Ends (end_of (many read_binding n) s at) → h ≡ word_at s at → h ≡ Some v
    → f ≡ end_of read_binding s at → f ≡ Some e → PairsNext s n at v e
pairs_next s n at {v = v} {e = e} z w is q ends k =
    let d = row_more read_binding s n at z w ends k in
    let p = pair_read s at is q d.is in
    record {
      bound_next = ap bound d.row ∙ ap (λ (b : Binding). bound (b ∷ row_at read_binding (n - 1) s e)) p.is;
      free_next = ap free d.row ∙ ap (λ (b : Binding). free (b ∷ row_at read_binding (n - 1) s e)) p.is ∙ ap (λ (l : List ℕ). l ++ free (row_at read_binding (n - 1) s e)) (sym p.variables);
      through = p.through;
      rest = d.rest;
    }

-- the first of some definitions, and the rest
definition_key : (s : List ℕ) (at : ℕ) {h : Option Signature} {d : Signature} {n : ℕ} {a : Definition} → h ≡ definition_head_at s at → h ≡ Some d → read_definition (drop at s) ≡ found a n → key a ≡ d.predicate * 256 + d.arity
unfolding read_definition definition_head_at
definition_key s at {h} {d} {n} {a} is q e =
    let x : definition_head (drop at s) ≡ Some d = sym is ∙ q in
    go (read (drop 4 (drop at s)) 0 1) (rw x at e)
  where
    go : (o : Read Parts) → also (λ w. definition d.predicate d.arity d.count (first_goal w)) 4 o ≡ found a n → key a ≡ d.predicate * 256 + d.arity
    go unread z = never cc
    go (found w j) z = let y : definition d.predicate d.arity d.count (first_goal w) ≡ a = cc in rw (← y)

keys_next : (s : List ℕ) (n at : ℕ) {h : Option Signature} {d : Signature} {f : Option ℕ} {e : ℕ} → 0 < n → Ends (end_of (many read_definition n) s at) → h ≡ definition_head_at s at → h ≡ Some d
    → f ≡ end_of read_definition s at → f ≡ Some e
    → (keys (row_at read_definition n s at) ≡ (d.predicate * 256 + d.arity) ∷ keys (row_at read_definition (n - 1) s e)) × Ends (end_of (many read_definition (n - 1)) s e)
keys_next s n at {e = e} z w is q ends k =
    let a = row_more read_definition s n at z w ends k in
    (ap keys a.row ∙ ap (λ (x : ℕ). x ∷ keys (row_at read_definition (n - 1) s e)) (definition_key s at is q a.is), a.rest)

-- the first of a row of items with numbers, and the rest
RanksNext : Ranked → (s : List ℕ) (n at x e : ℕ) → Type 0
RanksNext row s n at x e = (ranks row (row_at (ranked_reader row) n s at) ≡ x ∷ ranks row (row_at (ranked_reader row) (n - 1) s e)) × Ends (ranks_end row (n - 1) s e)

ranks_next : (row : Ranked) (s : List ℕ) (n at : ℕ) {h : Option ℕ} {x : ℕ} {f : Option ℕ} {e : ℕ} → 0 < n → Ends (ranks_end row n s at) → h ≡ rank_at row s at → h ≡ Some x
    → f ≡ ranked_end row s at → f ≡ Some e → RanksNext row s n at x e
unfolding RanksNext rank_at ranked_end ranks_end
ranks_next Pairs s n at z w is q ends g = let p = pairs_next s n at z w is q ends g in (p.bound_next, p.rest)
ranks_next Definitions s n at {x = x} {e = e} z w is q ends g = go (definition_head_at s at) refl (sym is ∙ q)
  where
    go : (i : Option Signature) → definition_head_at s at ≡ i → signature_rank i ≡ Some x
        → (keys (row_at read_definition n s at) ≡ x ∷ keys (row_at read_definition (n - 1) s e)) × Ends (end_of (many read_definition (n - 1)) s e)
    go (Some d) a b = let y : d.predicate * 256 + d.arity ≡ x = cc in rw (← y) (keys_next s n at z w (sym a) refl ends g)
    go None a b = never cc

pub no_rank : {P : Type 0} (row : Ranked) (s : List ℕ) (n at : ℕ) {h : Option ℕ} → 0 < n → Ends (ranks_end row n s at) → h ≡ rank_at row s at → h ≡ None → P
unfolding rank_at ranks_end
no_rank Pairs s n at z w is q = no_pair s n at z w is q
no_rank {P} Definitions s n at z w is q = go (definition_head_at s at) refl (sym is ∙ q)
  where
    go : (i : Option Signature) → definition_head_at s at ≡ i → signature_rank i ≡ None → P
    go (Some d) a b = never cc
    go None a b = no_key s n at z w (sym a) refl

pub no_ranked : {P : Type 0} (row : Ranked) (s : List ℕ) (n at : ℕ) {f : Option ℕ} → 0 < n → Ends (ranks_end row n s at) → f ≡ ranked_end row s at → f ≡ None → P
unfolding ranked_end ranks_end
no_ranked row s n at z w is q = no_break (ranked_reader row) s n at z w is q

pub rank_room : (row : Ranked) (s : List ℕ) (at : ℕ) → Known s → {h : Option ℕ} {x : ℕ} → h ≡ rank_at row s at → h ≡ Some x → x < 16777216
unfolding rank_at
rank_room Pairs s at known is q = omega (arith, word_room s at known is (Some _) q)
rank_room Definitions s at known {x = x} is q = go (definition_head_at s at) refl (sym is ∙ q)
  where
    go : (i : Option Signature) → definition_head_at s at ≡ i → signature_rank i ≡ Some x → x < 16777216
    go (Some d) a b = let y : d.predicate * 256 + d.arity ≡ x = cc in omega (arith, y, definition_room s at known (sym a) (Some d) refl)
    go None a b = never cc

-- one number of a row that is to rise
rises : {l k : List ℕ} {low x : ℕ} → l ≡ x ∷ k → low ≤ x → rising_from low l ≡ rising_from (x + 1) k
rises {k = k} {low} {x} e h = rw (e, add-one) (rising_next low x k h)

falls : {l k : List ℕ} {low x : ℕ} → l ≡ x ∷ k → x < low → false ≡ rising_from low l
falls {k = k} {low} {x} e h = rw e (sym (rising_not low x k h))

-- the numbers of a row rise, by the first of them
module _ (row : Ranked) (s : List ℕ) (n at low : ℕ) where
  pub ranks_done : n ≡ 0 → true ≡ ranks_rise row low n s at
  unfolding ranks_rise
  ranks_done z = go row
    where
      go : (k : Ranked) → true ≡ rising_from low (ranks k (row_at (ranked_reader k) n s at))
      go Pairs = rw (row_none read_binding s n at z)
      go Definitions = rw (row_none read_definition s n at z)

  module _ {h : Option ℕ} {x : ℕ} {f : Option ℕ} {e : ℕ} (z : 0 < n) (w : Ends (ranks_end row n s at)) (is : h ≡ rank_at row s at) (q : h ≡ Some x) (ends : f ≡ ranked_end row s at) (g : f ≡ Some e) where
    pub ranks_fall : x < low → false ≡ ranks_rise row low n s at
    unfolding ranks_rise RanksNext
    ranks_fall l = falls (ranks_next row s n at z w is q ends g).0 l

    pub ranks_go : low ≤ x → (ranks_rise row low n s at ≡ ranks_rise row (x + 1) (n - 1) s e) × Ends (ranks_end row (n - 1) s e)
    unfolding ranks_rise RanksNext
    ranks_go l = let p = ranks_next row s n at z w is q ends g in (rises p.0 l, p.1)

pub pairs_row : (s : List ℕ) (n at : ℕ) → Ends (end_of (many read_binding n) s at) → Ends (ranks_end Pairs n s at)
unfolding ranks_end
pairs_row s n at w = w

-- one more mark
pub marks_next : (marks : List ℕ) {marks' l k : List ℕ} {v : ℕ} → l ≡ v ∷ k → marks' ≡ marked marks v → all_marked marks l ≡ all_marked marks' k
unfolding all_marked
marks_next marks e q = rw (e, q) refl

pub marks_done : (marks : List ℕ) {l : List ℕ} → l ≡ [] → marks ≡ all_marked marks l
unfolding all_marked
marks_done marks e = rw e refl

-- the terms of one pair, and of the rest
module _ {s : List ℕ} {n at v e : ℕ} (p : PairsNext s n at v e) (marks : List ℕ) {b : Bool} (is : b ≡ unmarked marks (met (traverse s (at + 2) 1 0))) where
  split_terms : unmarked marks (free (row_at read_binding n s at)) ≡ (b && unmarked marks (free (row_at read_binding (n - 1) s e)))
  split_terms =
      ap (unmarked marks) p.free_next ∙ every_append (λ x. not (is_marked marks x)) (met (traverse s (at + 2) 1 0)) (free (row_at read_binding (n - 1) s e))
      ∙ ap (λ (c : Bool). c && unmarked marks (free (row_at read_binding (n - 1) s e))) (sym is)

  pub avoided : b ≡ true → unmarked marks (free (row_at read_binding n s at)) ≡ unmarked marks (free (row_at read_binding (n - 1) s e))
  avoided t = split_terms ∙ ap (λ (c : Bool). c && unmarked marks (free (row_at read_binding (n - 1) s e))) t

  pub met_some : b ≡ false → false ≡ unmarked marks (free (row_at read_binding n s at))
  met_some t = sym (split_terms ∙ ap (λ (c : Bool). c && unmarked marks (free (row_at read_binding (n - 1) s e))) t)

pub none_met : (marks : List ℕ) {l : List ℕ} → l ≡ [] → true ≡ unmarked marks l
none_met marks e = rw e

-- the rules of a unifier, by its pairs
module _ (s : List ℕ) (at n : ℕ) (known : Known s) (w : Ends (end_of (many read_binding n) s at)) where
  pairs_formed : All BindingFormed (row_at read_binding n s at)
  unfolding row_at
  pairs_formed = go (many read_binding n (drop at s)) refl
    where
      go : (o : Read (List Binding)) → many read_binding n (drop at s) ≡ o → All BindingFormed (row_of o)
      go unread e = tt
      go (found l m) e = ((many_exact binding_exact n).sound (drop at s) (bytes_drop at s (bytes_all s known)) l m e).formed.1

  rules_row : kept_at unifier_rules (many read_binding n) s at ≡ unifier_rules (row_at read_binding n s at)
  unfolding kept_at row_at unifier_rules
  rules_row = go (many read_binding n (drop at s))
    where
      go : (o : Read (List Binding)) → holds unifier_rules o ≡ unifier_rules (row_of o)
      go unread = refl
      go (found l m) = refl

  pub falling_unifier : {b : Bool} → b ≡ ranks_rise Pairs 0 n s at → b ≡ false → false ≡ kept_at unifier_rules (many read_binding n) s at
  unfolding ranks_rise
  falling_unifier is e = sym (rules_row ∙ unifier_rules_marked (row_at read_binding n s at) pairs_formed ∙ rw (← is, e))

  pub rising_unifier : {b r : Bool} {marks : List ℕ} → b ≡ ranks_rise Pairs 0 n s at → b ≡ true → marks ≡ all_marked (replicate 1024 0) (bound (row_at read_binding n s at))
      → r ≡ unmarked marks (free (row_at read_binding n s at)) → r ≡ kept_at unifier_rules (many read_binding n) s at
  unfolding ranks_rise
  rising_unifier {r = r} is e q u = u ∙ sym (rules_row ∙ unifier_rules_marked (row_at read_binding n s at) pairs_formed ∙ rw (← is, e, ← q))

-- no unifier
pub or_other : {k : ℕ} (n : ℕ) → (Some (Or k)) ≡ (Some (Unifier n)) → ⊥
or_other n e = never cc

pub by_other : (n : ℕ) → (Some By) ≡ (Some (Unifier n)) → ⊥
by_other n e = never cc

pub none_other : (n : ℕ) → None ≡ (Some (Unifier n)) → ⊥
none_other n e = never cc
