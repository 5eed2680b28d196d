-- Which bytes at a position make which head.
use Rattle.std.specs.Prelude.{Option, Some, None}
use Prim.Native.Nat.{ℕ, suc, ◌+◌, ◌<◌, ◌≤◌}
use native.Mathlib.Numerals.{add-one, add-two, add-three, add-four}
use native.Mathlib.Omega.{arith}
use mathlib.Core.Path.{◌≡◌, refl, sym}
use mathlib.Core.Bool.{true, false}
use mathlib.Core.List.{List, [], ◌∷◌}
use lib.ListN.{length, drop, get_or, length-drop, drop_of_length-le}
use lib.Seq.{drop-cons}
use borrow.Author.Tests.{ne_eqb, le-leb, lt-leb}
use Rattle.records.specs.Format.Heads.{signed, joined, is_tag, term_head, goal_head, atom_head, half_head, called_or, unifier_head, word_head, definition_head, clause_of, term_head_at, goal_head_at, atom_head_at, half_head_at, ancestor_head_at, bet_head_at, or_head_at, word_at, definition_head_at, clause_head_at}
use Rattle.records.specs.declared.heads.TermHead.TheVariants.{Variable, Symbol}
use Rattle.records.specs.declared.heads.GoalHead.{GoalHead}
use Rattle.records.specs.declared.heads.GoalHead.TheVariants.{Atom}
use Rattle.records.specs.declared.heads.AncestorHead.{AncestorHead}
use Rattle.records.specs.declared.heads.AncestorHead.TheVariants.{InConj, InDisj}
use Rattle.records.specs.declared.heads.BetHead.{BetHead}
use Rattle.records.specs.declared.heads.BetHead.TheVariants.{Or, By}
use Rattle.records.specs.declared.heads.Signature.{Signature}

module _ (s : List ℕ) (at : ℕ) where
  -- the first bytes of what is left
  pub at_1 : at < length s → drop at s ≡ get_or s at 0 ∷ drop (at + 1) s
  at_1 h = rw (add-one, drop-cons s at 0)

  pub at_2 : at + 2 ≤ length s → drop at s ≡ get_or s at 0 ∷ get_or s (at + 1) 0 ∷ drop (at + 2) s
  at_2 h =
      let h0 : at < length s = omega arith in
      let h1 : suc at < length s = omega arith in
      rw (add-one, add-two, drop-cons s at 0, drop-cons s (suc at) 0)

  pub at_3 : at + 3 ≤ length s → drop at s ≡ get_or s at 0 ∷ get_or s (at + 1) 0 ∷ get_or s (at + 2) 0 ∷ drop (at + 3) s
  at_3 h =
      let h2 : suc (suc at) < length s = omega arith in
      let h1 : at + 2 ≤ length s = omega arith in
      rw (at_2 h1, add-two, add-three, drop-cons s (suc (suc at)) 0)

  pub at_4 : at + 4 ≤ length s → drop at s ≡ get_or s at 0 ∷ get_or s (at + 1) 0 ∷ get_or s (at + 2) 0 ∷ get_or s (at + 3) 0 ∷ drop (at + 4) s
  at_4 h =
      let h3 : suc (suc (suc at)) < length s = omega arith in
      let h2 : at + 3 ≤ length s = omega arith in
      rw (at_3 h2, add-three, add-four, drop-cons s (suc (suc (suc at))) 0)

  -- what is left is too short
  few : {A : Type 0} (f : List ℕ → A) (a : A) (n : ℕ) → 0 < n → ((l : List ℕ) → length l < n → a ≡ f l) → length s < at + n → a ≡ f (drop at s)
  few f a n z q h = q (drop at s) (rw length-drop (omega arith))

  pub short_term : length s < at + 3 → None ≡ term_head_at s at
  unfolding term_head_at
  short_term h = few term_head None 3 (omega arith) go h
    where
      go : (l : List ℕ) → length l < 3 → None ≡ term_head l
      go [] k = refl
      go (b ∷ []) k = refl
      go (b ∷ x ∷ []) k = refl
      go (b ∷ x ∷ y ∷ l) k = absurd (omega arith)

  pub variable_at : (n : ℕ) → at + 3 ≤ length s → get_or s at 0 ≡ 0x01 → n ≡ joined (get_or s (at + 1) 0) (get_or s (at + 1 + 1) 0) → (Some (Variable n)) ≡ term_head_at s at
  unfolding term_head_at
  variable_at n h b e =
      let z : at + 1 + 1 ≡ at + 2 = omega arith in
      rw (at_3 h, b, e, z)

  pub other_kind : at + 3 ≤ length s → (get_or s at 0 ≡ 0x01 → ⊥) → (get_or s at 0 ≡ 0x02 → ⊥) → None ≡ term_head_at s at
  unfolding term_head_at
  other_kind h a b = rw (at_3 h, ne_eqb (get_or s at 0) 0x01 a, ne_eqb (get_or s at 0) 0x02 b)

  pub short_symbol : at + 3 ≤ length s → get_or s at 0 ≡ 0x02 → length s < at + 4 → None ≡ term_head_at s at
  unfolding term_head_at
  short_symbol h b k =
      let k3 : length s ≤ at + 3 = omega arith in
      rw (at_3 h, b, drop_of_length-le s k3)

  pub symbol_at : (n k : ℕ) → at + 4 ≤ length s → get_or s at 0 ≡ 0x02 → n ≡ joined (get_or s (at + 1) 0) (get_or s (at + 1 + 1) 0) → k ≡ get_or s (at + 3) 0 → k ≤ 16 → (Some (Symbol n k)) ≡ term_head_at s at
  unfolding term_head_at
  symbol_at n k h b e d le =
      let z : at + 1 + 1 ≡ at + 2 = omega arith in
      rw (at_4 h, b, e, z, ← d, le-leb k 16 le)

  pub large_arity : at + 4 ≤ length s → get_or s at 0 ≡ 0x02 → 16 < get_or s (at + 3) 0 → None ≡ term_head_at s at
  unfolding term_head_at
  large_arity h b lt = rw (at_4 h, b, lt-leb (get_or s (at + 3) 0) 16 lt)

  pub short_atom : length s < at + 3 → None ≡ atom_head_at s at
  unfolding atom_head_at
  short_atom h = few atom_head None 3 (omega arith) go h
    where
      go : (l : List ℕ) → length l < 3 → None ≡ atom_head l
      go [] k = refl
      go (b ∷ []) k = refl
      go (b ∷ x ∷ []) k = refl
      go (b ∷ x ∷ y ∷ l) k = absurd (omega arith)

  pub atom_at : (n k : ℕ) → at + 3 ≤ length s → n ≡ joined (get_or s at 0) (get_or s (at + 1) 0) → k ≡ get_or s (at + 2) 0 → k ≤ 16 → (Some (Atom n k)) ≡ atom_head_at s at
  unfolding atom_head_at
  atom_at n k h e d le = rw (at_3 h, e, ← d, le-leb k 16 le)

  pub large_atom : at + 3 ≤ length s → 16 < get_or s (at + 2) 0 → None ≡ atom_head_at s at
  unfolding atom_head_at
  large_atom h lt = rw (at_3 h, lt-leb (get_or s (at + 2) 0) 16 lt)

  pub past_goal : length s ≤ at → None ≡ goal_head_at s at
  unfolding goal_head_at
  past_goal h = rw (drop_of_length-le s h)

  -- a head by its kind byte
  pub goal_kind : (h : Option GoalHead) (b : ℕ) → ((l : List ℕ) → goal_head (b ∷ l) ≡ h) → at < length s → get_or s at 0 ≡ b → h ≡ goal_head_at s at
  unfolding goal_head_at
  goal_kind h b is k e = rw (at_1 k, e) (sym (is (drop (at + 1) s)))

  pub atom_kind : (h : Option GoalHead) → at < length s → get_or s at 0 ≡ 0x15 → h ≡ atom_head_at s (at + 1) → h ≡ goal_head_at s at
  unfolding goal_head_at atom_head_at
  atom_kind h k e a = rw (at_1 k, e) a

  pub no_goal : at < length s → (get_or s at 0 ≡ 0x10 → ⊥) → (get_or s at 0 ≡ 0x11 → ⊥) → (get_or s at 0 ≡ 0x12 → ⊥) → (get_or s at 0 ≡ 0x13 → ⊥) → (get_or s at 0 ≡ 0x14 → ⊥) → (get_or s at 0 ≡ 0x15 → ⊥)
      → None ≡ goal_head_at s at
  unfolding goal_head_at
  no_goal h a b c d e f = rw (at_1 h, ne_eqb _ _ a, ne_eqb _ _ b, ne_eqb _ _ c, ne_eqb _ _ d, ne_eqb _ _ e, ne_eqb _ _ f)

  pub short_half : length s < at + 2 → None ≡ half_head_at s at
  unfolding half_head_at
  short_half h = few half_head None 2 (omega arith) go h
    where
      go : (l : List ℕ) → length l < 2 → None ≡ half_head l
      go [] k = refl
      go (b ∷ []) k = refl
      go (b ∷ x ∷ l) k = absurd (omega arith)

  pub no_tag : (k : ℕ) → at + 2 ≤ length s → k ≡ get_or s (at + 1) 0 → is_tag k ≡ false → None ≡ half_head_at s at
  unfolding half_head_at
  no_tag k h e t = rw (at_2 h, ← e, t)

  pub conj_half : (k : ℕ) → at + 2 ≤ length s → k ≡ get_or s (at + 1) 0 → is_tag k ≡ true → get_or s at 0 ≡ 0x30 → (Some (InConj k)) ≡ half_head_at s at
  unfolding half_head_at
  conj_half k h e t b = rw (at_2 h, ← e, t, b)

  pub disj_half : (k : ℕ) → at + 2 ≤ length s → k ≡ get_or s (at + 1) 0 → is_tag k ≡ true → get_or s at 0 ≡ 0x31 → (Some (InDisj k)) ≡ half_head_at s at
  unfolding half_head_at
  disj_half k h e t b = rw (at_2 h, ← e, t, b)

  pub other_half : (k : ℕ) → at + 2 ≤ length s → k ≡ get_or s (at + 1) 0 → is_tag k ≡ true → (get_or s at 0 ≡ 0x30 → ⊥) → (get_or s at 0 ≡ 0x31 → ⊥) → None ≡ half_head_at s at
  unfolding half_head_at
  other_half k h e t a b = rw (at_2 h, ← e, t, ne_eqb (get_or s at 0) 0x30 a, ne_eqb (get_or s at 0) 0x31 b)

  -- an ancestor by the head that a goal would have there
  pub ancestor_arm : {h : Option GoalHead} {i : Option AncestorHead} → h ≡ goal_head_at s at → i ≡ half_head_at s at → (j : Option GoalHead) → h ≡ j → called_or j i ≡ ancestor_head_at s at
  unfolding goal_head_at half_head_at ancestor_head_at
  ancestor_arm {h} {i} p q j e = rw (← e, p, q)

  pub short_word : length s < at + 2 → None ≡ word_at s at
  unfolding word_at
  short_word h = few word_head None 2 (omega arith) go h
    where
      go : (l : List ℕ) → length l < 2 → None ≡ word_head l
      go [] k = refl
      go (b ∷ []) k = refl
      go (b ∷ x ∷ l) k = absurd (omega arith)

  pub number_at : (n : ℕ) → at + 2 ≤ length s → n ≡ joined (get_or s at 0) (get_or s (at + 1) 0) → Some n ≡ word_at s at
  unfolding word_at
  number_at n h e = rw (at_2 h, e)

  pub past_or : length s ≤ at → None ≡ or_head_at s at
  unfolding or_head_at
  past_or h = rw (drop_of_length-le s h)

  pub or_at : (k : ℕ) → at < length s → k ≡ get_or s at 0 → is_tag k ≡ true → (Some (Or k)) ≡ or_head_at s at
  unfolding or_head_at
  or_at k h e t = rw (at_1 h, ← e, t)

  pub not_or : (k : ℕ) → at < length s → k ≡ get_or s at 0 → is_tag k ≡ false → None ≡ or_head_at s at
  unfolding or_head_at
  not_or k h e t = rw (at_1 h, ← e, t)

  pub past_bet : length s ≤ at → None ≡ bet_head_at s at
  unfolding bet_head_at
  past_bet h = rw (drop_of_length-le s h)

  pub unifier_kind : {w : Option ℕ} → at < length s → get_or s at 0 ≡ 0x20 → w ≡ word_at s (at + 1) → unifier_head w ≡ bet_head_at s at
  unfolding bet_head_at word_at
  unifier_kind h e q = rw (at_1 h, e, q)

  pub or_kind : (i : Option BetHead) → at < length s → get_or s at 0 ≡ 0x21 → i ≡ or_head_at s (at + 1) → i ≡ bet_head_at s at
  unfolding bet_head_at or_head_at
  or_kind i h e q = rw (at_1 h, e) q

  pub by_kind : at < length s → get_or s at 0 ≡ 0x22 → (Some By) ≡ bet_head_at s at
  unfolding bet_head_at
  by_kind h e = rw (at_1 h, e)

  pub no_bet : at < length s → (get_or s at 0 ≡ 0x20 → ⊥) → (get_or s at 0 ≡ 0x21 → ⊥) → (get_or s at 0 ≡ 0x22 → ⊥) → None ≡ bet_head_at s at
  unfolding bet_head_at
  no_bet h a b c = rw (at_1 h, ne_eqb _ _ a, ne_eqb _ _ b, ne_eqb _ _ c)

  pub short_definition : length s < at + 4 → None ≡ definition_head_at s at
  unfolding definition_head_at
  short_definition h = few definition_head None 4 (omega arith) go h
    where
      go : (l : List ℕ) → length l < 4 → None ≡ definition_head l
      go [] k = refl
      go (b ∷ []) k = refl
      go (b ∷ x ∷ []) k = refl
      go (b ∷ x ∷ y ∷ []) k = refl
      go (b ∷ x ∷ y ∷ z ∷ l) k = absurd (omega arith)

  pub definition_at : (p k n : ℕ) → at + 4 ≤ length s → p ≡ joined (get_or s at 0) (get_or s (at + 1) 0) → k ≡ get_or s (at + 2) 0 → n ≡ get_or s (at + 3) 0 → k ≤ 16 → signed p k n ≡ definition_head_at s at
  unfolding definition_head_at
  definition_at p k n h e d f le = rw (at_4 h, e, ← d, ← f, le-leb k 16 le)

  pub large_definition : at + 4 ≤ length s → 16 < get_or s (at + 2) 0 → None ≡ definition_head_at s at
  unfolding definition_head_at
  large_definition h lt = rw (at_4 h, lt-leb (get_or s (at + 2) 0) 16 lt)

  pub clause_at : {h : Option Signature} → h ≡ definition_head_at s at → (j : Option Signature) → h ≡ j → clause_of j ≡ clause_head_at s at
  unfolding definition_head_at clause_head_at
  clause_at p j e = rw (← e, p)
