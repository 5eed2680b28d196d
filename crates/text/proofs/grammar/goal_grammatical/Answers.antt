use Rattle.std.proofs.Common.{sym, ap, ◌∙◌}
use Rattle.text.specs.Parsing.Table.{end_kind, stop_kind}
use Rattle.text.specs.Parsing.KindLaws.{not_end, not_stop}
use Rattle.text.specs.Parsing.QuestionsLaws.{goal_read_start, read_on, read_end, goal_step, goal_stopped, goal_accepts_end}
use Rattle.text.proofs.grammar.goal_grammatical.Goals as goal

pub loop-kind-init : goal.loop-kind-init
loop-kind-init c = rw c.start-state.ensures (goal_read_start _)

pub returns-in-End : goal.returns-in-End
returns-in-End c = c.is_final.ensures ∙ rw c.look.ensures (sym (read_end c.loop-kind.invariant c.next_token-t.ensures (ap end_kind c.in-End.is) ∙ goal_accepts_end _))

pub returns-in-Stop : goal.returns-in-Stop
returns-in-Stop c = goal_stopped c.loop-kind.invariant c.next_token-t.ensures (ap end_kind c.in-Stop.is) (ap stop_kind c.in-Stop.is)

pub loop-kind-preserved : goal.loop-kind-preserved
loop-kind-preserved c = read_on c.loop-kind.invariant c.next_token-t.ensures (goal_step _ (not_stop _ c.in_default.not-Stop)) (not_end _ c.in_default.not-End) c.look-state.ensures
