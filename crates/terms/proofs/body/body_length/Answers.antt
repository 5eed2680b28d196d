use Rattle.std.specs.Prelude.{Some}
use mathlib.Core.Path.{ap, ◌∙◌}
use native.Mathlib.Omega.{arith}
use Rattle.terms.specs.Values.AheadLaws.{ahead_on, ahead_less, ahead_less_other}
use Rattle.terms.specs.Body.BodyLengthLaws.{counting_start, counting_variable, counting_other, counting_full, counting_done}
use Rattle.terms.proofs.body.body_length.Goals as goal

pub loop-n-init : goal.loop-n-init
loop-n-init c = λ g t m. rw c.goal-c.ensures (counting_start g t.terms m)

pub next_node-requires : goal.next_node-requires
next_node-requires c = ahead_on (c.loop-n.invariant c.requires.goal_at c.requires.term_table 0).ahead

pub numbered_length-requires : goal.numbered_length-requires
numbered_length-requires c = c.requires.term_table

pub added-n-requires : goal.added-n-requires
added-n-requires c = (omega (arith, c.loop-n-test.true), c.requires.room_bound)

pub loop-n-smaller-in-Variable : goal.loop-n-smaller-in-Variable
loop-n-smaller-in-Variable c =
    let u = c.loop-n.invariant c.requires.goal_at c.requires.term_table 0 in
    omega (arith, ahead_less u.ahead c.type_inv.program c.next_node.ensures (c.in-Some.is ∙ ap Some c.in-Variable.is))

pub loop-n-preserved-in-Variable : goal.loop-n-preserved-in-Variable
loop-n-preserved-in-Variable c = λ g t m.
    counting_variable (c.loop-n.invariant g t m) c.type_inv.program c.next_node.ensures c.loop-n-test.true (c.in-Some.is ∙ ap Some c.in-Variable.is)
    (c.numbered_length.ensures t m) c.added-n.ensures

pub overflow_sub-next : goal.overflow_sub-next
overflow_sub-next c =
    let u = c.loop-n.invariant c.requires.goal_at c.requires.term_table 0 in
    omega (arith, ahead_less_other u.ahead c.type_inv.program c.next_node.ensures (c.in-Some.is ∙ ap Some c.in-Other.is))

pub added-n-requires-in-Other : goal.added-n-requires-in-Other
added-n-requires-in-Other c = (omega (arith, c.loop-n-test.true), c.requires.room_bound)

pub loop-n-smaller : goal.loop-n-smaller
loop-n-smaller c =
    let u = c.loop-n.invariant c.requires.goal_at c.requires.term_table 0 in
    omega (arith, ahead_less_other u.ahead c.type_inv.program c.next_node.ensures (c.in-Some.is ∙ ap Some c.in-Other.is))

pub loop-n-preserved : goal.loop-n-preserved
loop-n-preserved c = λ g t m.
    counting_other (c.loop-n.invariant g t m) c.type_inv.program c.next_node.ensures c.loop-n-test.true (c.in-Some.is ∙ ap Some c.in-Other.is) c.added-n-in-Other.ensures

pub returns-in_default : goal.returns-in_default
returns-in_default c = λ g t m. counting_done (c.loop-n.invariant g t m) c.type_inv.program c.next_node.ensures c.loop-n-test.true c.in_default.is

pub returns : goal.returns
returns c = λ g t m. counting_full (c.loop-n.invariant g t m) c.loop-n-test.false
