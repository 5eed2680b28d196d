use mathlib.Core.Path.{◌≡◌}
use mathlib.Core.List.{List}
use Prim.Native.Nat.{◌*◌, ◌≤◌}
use lib.ListN.{length}
use Rattle.records.specs.Format.Syntax.{Bet}
use Rattle.terms.specs.Values.Pairs.{PairsOf}
use Rattle.answers.specs.Writing.ValuesLaws.{Summed}
use Rattle.answers.proofs.values.values_length.Given as goal

abbrev pub invariant-loop-v : goal.invariant-loop-v
invariant-loop-v l =
    ((bets : List Bet) → PairsOf bets l.pairs → Summed bets l.variables l.v-index l.sum) × (l.sum ≤ 8194 * l.v-index) × (length l.value ≡ length l.initial.value)
