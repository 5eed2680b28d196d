use Rattle.std.proofs.Common.{ap, ◌∙◌, arith}
use Rattle.text.specs.Parsing.Table.{end_kind}
use Rattle.text.specs.Parsing.KindLaws.{not_end}
use Rattle.reader.specs.Items.Items.{position}
use Rattle.reader.specs.Items.SortedLaws.{sorting_start, sorting_more, sorting_end}
use Rattle.reader.proofs.sort.sort.Goals as goal

pub loop-kind-init : goal.loop-kind-init
loop-kind-init c = sorting_start _ c.requires.goals_bound

pub returns-in-End : goal.returns-in-End
returns-in-End c = sorting_end c.loop-kind.invariant c.next_token-t.ensures (ap end_kind c.in-End.is)

pub loop-kind-preserved : goal.loop-kind-preserved
loop-kind-preserved c =
    let loop = c.loop-kind in
    let next = c.next_token-t.ensures in
    let h = not_end _ c.in_default.not-End in
    let role = c.role_at.ensures ∙ c.equals_behind-equals.ensures (position loop.state.mode) in
    rw c.look-state.ensures (sorting_more loop.invariant next h (omega (arith, next.advances h)) c.role_at.result role)
