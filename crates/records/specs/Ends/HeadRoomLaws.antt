-- What a head found at a position says: its bytes lie within, and its numbers are small.
use Rattle.std.specs.Prelude.{ℕ, ◌+◌, ◌<◌, ◌≤◌, ◌≡◌, List, [], ◌∷◌, ◌++◌, length, drop, Option, Some, None}
use Rattle.std.proofs.Common.{arith, sym, ap, ◌∙◌, length-append, length-drop}
use Rattle.records.specs.Format.Encode.{word}
use Rattle.records.specs.Format.Heads.{term_head_at, goal_head_at, ancestor_head_at, bet_head_at, word_at, definition_head_at, clause_head_at}
use Rattle.records.specs.Format.HeadLaws.{Bytes, Known, bytes_all, bytes_drop, TermLead, term_lead, GoalLead, goal_lead, AncestorLead, ancestor_lead, BetLead, bet_lead, WordLead, word_lead, DefinitionLead, definition_lead, ClauseLead, clause_lead}
use Rattle.records.specs.Ends.HeadRoom.{TermRoom, GoalRoom, AncestorRoom, BetRoom, WordRoom, SignatureRoom}
use Rattle.records.specs.declared.heads.TermHead.{TermHead}
use Rattle.records.specs.declared.heads.TermHead.TheVariants.{Variable, Symbol}
use Rattle.records.specs.declared.heads.GoalHead.{GoalHead}
use Rattle.records.specs.declared.heads.GoalHead.TheVariants.{Truth, Failure, Equal, Conj, Disj, Atom}
use Rattle.records.specs.declared.heads.AncestorHead.{AncestorHead}
use Rattle.records.specs.declared.heads.AncestorHead.TheVariants.{Called, InConj, InDisj}
use Rattle.records.specs.declared.heads.BetHead.{BetHead}
use Rattle.records.specs.declared.heads.BetHead.TheVariants.{Unifier, Or, By}
use Rattle.records.specs.declared.heads.Signature.{Signature}

-- k bytes, and then what is left, of what stands at a position
within : (s : List ℕ) (at : ℕ) (x : List ℕ) → 0 < length x → drop at s ≡ x ++ drop (length x) (drop at s) → at + length x ≤ length s
within s at x z e =
    let w : length (drop at s) ≡ length x + length (drop (length x) (drop at s)) = ap length e ∙ length-append x (drop (length x) (drop at s)) in
    omega (arith, length-drop at s)

module _ (s : List ℕ) (at : ℕ) (known : Known s) where
  here : Bytes (drop at s)
  here = bytes_drop at s (bytes_all s known)

  term_of : (i : Option TermHead) → TermLead (drop at s) i → TermRoom s at i
  term_of (Some (Variable v)) q = (within s at (0x01 ∷ word v) (omega arith) q.0, q.1)
  term_of (Some (Symbol f k)) q = (within s at (0x02 ∷ (word f ++ (k ∷ []))) (omega arith) q.0, q.1, q.2)
  term_of None q = tt

  pub term_room : {h : Option TermHead} → h ≡ term_head_at s at → (i : Option TermHead) → h ≡ i → TermRoom s at i
  unfolding term_head_at
  term_room is i e = term_of i (rw (sym is ∙ e) at (term_lead (drop at s) here))

  goal_of : (i : Option GoalHead) → GoalLead (drop at s) i → GoalRoom s at i
  goal_of (Some Truth) q = within s at (0x10 ∷ []) (omega arith) q
  goal_of (Some Failure) q = within s at (0x11 ∷ []) (omega arith) q
  goal_of (Some Equal) q = within s at (0x12 ∷ []) (omega arith) q
  goal_of (Some Conj) q = within s at (0x13 ∷ []) (omega arith) q
  goal_of (Some Disj) q = within s at (0x14 ∷ []) (omega arith) q
  goal_of (Some (Atom p k)) q = (within s at (0x15 ∷ (word p ++ (k ∷ []))) (omega arith) q.0, q.1, q.2)
  goal_of None q = tt

  pub goal_room : {h : Option GoalHead} → h ≡ goal_head_at s at → (i : Option GoalHead) → h ≡ i → GoalRoom s at i
  unfolding goal_head_at
  goal_room is i e = goal_of i (rw (sym is ∙ e) at (goal_lead (drop at s) here))

  ancestor_of : (i : Option AncestorHead) → AncestorLead (drop at s) i → AncestorRoom s at i
  ancestor_of (Some (Called p k)) q = (within s at (0x15 ∷ (word p ++ (k ∷ []))) (omega arith) q.0, q.1, q.2)
  ancestor_of (Some (InConj k)) q = (within s at (0x30 ∷ (k ∷ [])) (omega arith) q.0, q.1)
  ancestor_of (Some (InDisj k)) q = (within s at (0x31 ∷ (k ∷ [])) (omega arith) q.0, q.1)
  ancestor_of None q = tt

  pub ancestor_room : {h : Option AncestorHead} → h ≡ ancestor_head_at s at → (i : Option AncestorHead) → h ≡ i → AncestorRoom s at i
  unfolding ancestor_head_at
  ancestor_room is i e = ancestor_of i (rw (sym is ∙ e) at (ancestor_lead (drop at s) here))

  bet_of : (i : Option BetHead) → BetLead (drop at s) i → BetRoom s at i
  bet_of (Some (Unifier n)) q = (within s at (0x20 ∷ word n) (omega arith) q.0, q.1)
  bet_of (Some (Or k)) q = (within s at (0x21 ∷ (k ∷ [])) (omega arith) q.0, q.1)
  bet_of (Some By) q = within s at (0x22 ∷ []) (omega arith) q
  bet_of None q = tt

  pub bet_room : {h : Option BetHead} → h ≡ bet_head_at s at → (i : Option BetHead) → h ≡ i → BetRoom s at i
  unfolding bet_head_at
  bet_room is i e = bet_of i (rw (sym is ∙ e) at (bet_lead (drop at s) here))

  word_of : (i : Option ℕ) → WordLead (drop at s) i → WordRoom s at i
  word_of (Some n) q = (within s at (word n) (omega arith) q.0, q.1)
  word_of None q = tt

  pub word_room : {h : Option ℕ} → h ≡ word_at s at → (i : Option ℕ) → h ≡ i → WordRoom s at i
  unfolding word_at
  word_room is i e = word_of i (rw (sym is ∙ e) at (word_lead (drop at s) here))

  definition_of : (i : Option Signature) → DefinitionLead (drop at s) i → SignatureRoom s at 255 i
  definition_of (Some d) q = (within s at (word d.predicate ++ (d.arity ∷ (d.count ∷ []))) (omega arith) q.0, q.1, q.2, omega (arith, q.3))
  definition_of None q = tt

  pub definition_room : {h : Option Signature} → h ≡ definition_head_at s at → (i : Option Signature) → h ≡ i → SignatureRoom s at 255 i
  unfolding definition_head_at
  definition_room is i e = definition_of i (rw (sym is ∙ e) at (definition_lead (drop at s) here))

  clause_of : (i : Option Signature) → ClauseLead (drop at s) i → SignatureRoom s at 64 i
  clause_of (Some d) q = (within s at (word d.predicate ++ (d.arity ∷ (d.count ∷ []))) (omega arith) q.0, q.1, q.2, q.3)
  clause_of None q = tt

  pub clause_room : {h : Option Signature} → h ≡ clause_head_at s at → (i : Option Signature) → h ≡ i → SignatureRoom s at 64 i
  unfolding clause_head_at
  clause_room is i e = clause_of i (rw (sym is ∙ e) at (clause_lead (drop at s) here))
