-- The room of a head at a position: its bytes lie within, and its numbers are small.
use Rattle.std.specs.Prelude.{ℕ, ◌+◌, ◌<◌, ◌≤◌, List, length, Option, Some, None}
use Rattle.records.specs.Format.HeadLaws.{IsTag}
use Rattle.records.specs.declared.heads.TermHead.{TermHead}
use Rattle.records.specs.declared.heads.TermHead.TheVariants.{Variable, Symbol}
use Rattle.records.specs.declared.heads.GoalHead.{GoalHead}
use Rattle.records.specs.declared.heads.GoalHead.TheVariants.{Truth, Failure, Equal, Conj, Disj, Atom}
use Rattle.records.specs.declared.heads.AncestorHead.{AncestorHead}
use Rattle.records.specs.declared.heads.AncestorHead.TheVariants.{Called, InConj, InDisj}
use Rattle.records.specs.declared.heads.BetHead.{BetHead}
use Rattle.records.specs.declared.heads.BetHead.TheVariants.{Unifier, Or, By}
use Rattle.records.specs.declared.heads.Signature.{Signature}

abbrev pub TermRoom : List ℕ → ℕ → Option TermHead → Type 0
TermRoom s at (Some (Variable v)) = (at + 3 ≤ length s) × (v < 65536)
TermRoom s at (Some (Symbol f k)) = (at + 4 ≤ length s) × (f < 65536) × (k ≤ 16)
TermRoom s at None = Unit {0}

abbrev pub GoalRoom : List ℕ → ℕ → Option GoalHead → Type 0
GoalRoom s at (Some Truth) = at + 1 ≤ length s
GoalRoom s at (Some Failure) = at + 1 ≤ length s
GoalRoom s at (Some Equal) = at + 1 ≤ length s
GoalRoom s at (Some Conj) = at + 1 ≤ length s
GoalRoom s at (Some Disj) = at + 1 ≤ length s
GoalRoom s at (Some (Atom p k)) = (at + 4 ≤ length s) × (p < 65536) × (k ≤ 16)
GoalRoom s at None = Unit {0}

abbrev pub AncestorRoom : List ℕ → ℕ → Option AncestorHead → Type 0
AncestorRoom s at (Some (Called p k)) = (at + 4 ≤ length s) × (p < 65536) × (k ≤ 16)
AncestorRoom s at (Some (InConj k)) = (at + 2 ≤ length s) × IsTag k
AncestorRoom s at (Some (InDisj k)) = (at + 2 ≤ length s) × IsTag k
AncestorRoom s at None = Unit {0}

abbrev pub BetRoom : List ℕ → ℕ → Option BetHead → Type 0
BetRoom s at (Some (Unifier n)) = (at + 3 ≤ length s) × (n < 65536)
BetRoom s at (Some (Or k)) = (at + 2 ≤ length s) × IsTag k
BetRoom s at (Some By) = at + 1 ≤ length s
BetRoom s at None = Unit {0}

abbrev pub WordRoom : List ℕ → ℕ → Option ℕ → Type 0
WordRoom s at (Some n) = (at + 2 ≤ length s) × (n < 65536)
WordRoom s at None = Unit {0}

abbrev pub SignatureRoom : List ℕ → ℕ → ℕ → Option Signature → Type 0
SignatureRoom s at m (Some d) = (at + 4 ≤ length s) × (d.predicate < 65536) × (d.arity ≤ 16) × (d.count ≤ m)
SignatureRoom s at m None = Unit {0}
