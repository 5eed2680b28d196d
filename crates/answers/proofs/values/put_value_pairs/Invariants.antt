use mathlib.Core.Path.{◌≡◌}
use mathlib.Core.List.{List}
use lib.ListN.{length}
use Rattle.records.specs.Format.Syntax.{Bet}
use Rattle.terms.specs.Values.Pairs.{PairsOf}
use Rattle.answers.specs.Writing.Values.{ValuePairsFit}
use Rattle.answers.specs.Writing.ValuesLaws.{ValuePairsPut}
use Rattle.answers.proofs.values.put_value_pairs.Given as goal

abbrev pub invariant-loop-v : goal.invariant-loop-v
invariant-loop-v l =
    ((bets : List Bet) → PairsOf bets l.pairs → ValuePairsFit bets l.variables l.at (length l.initial.out) → ValuePairsPut bets l.variables l.initial.out l.at l.v-index l.out l.pos)
    × (length l.value ≡ length l.initial.value)
