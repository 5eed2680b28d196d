use Rattle.text.specs.Parsing.Questions.{goal_grammatical, goal_accepts}
use Rattle.text.specs.Parsing.QuestionsLaws.{ReadTo}
use Prim.Native.Nat.{◌-◌}
use lib.ListN.{length}
use Rattle.text.proofs.grammar.goal_grammatical.Given as goal

abbrev pub invariant-loop-kind : goal.invariant-loop-kind
invariant-loop-kind l = ReadTo (goal_grammatical l.s) goal_accepts l.s l.state l.at

abbrev pub decreases-loop-kind : goal.decreases-loop-kind
decreases-loop-kind l = length l.s - l.at
