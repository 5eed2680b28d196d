use Rattle.std.proofs.Common.{sym, ap, ◌∙◌}
use Rattle.text.specs.Parsing.Table.{end_kind}
use Rattle.text.specs.Parsing.KindLaws.{not_end}
use Rattle.text.specs.Parsing.QuestionsLaws.{read_start, read_on, read_end, accepts_step, accepts_end}
use Rattle.text.proofs.grammar.grammatical.Goals as goal

pub loop-kind-init : goal.loop-kind-init
loop-kind-init c = rw c.start-state.ensures (read_start _)

pub returns-in-End : goal.returns-in-End
returns-in-End c = c.is_final.ensures ∙ sym (read_end c.loop-kind.invariant c.next_token-t.ensures (ap end_kind c.in-End.is) ∙ accepts_end _)

pub loop-kind-preserved : goal.loop-kind-preserved
loop-kind-preserved c = read_on c.loop-kind.invariant c.next_token-t.ensures (λ t ts k. accepts_step _ t ts) (not_end _ c.in_default.not-End) c.look-state.ensures
