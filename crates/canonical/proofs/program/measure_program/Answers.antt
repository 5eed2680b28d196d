use native.Mathlib.Omega.{arith}
use mathlib.Core.Path.{ap, ◌∙◌}
use Rattle.std.proofs.Common.{rules, tests, length-drop}
use Rattle.std.specs.Prelude.{length}
use Rattle.std.proofs.lemmas.List.Sorted.{answers_always}
use Rattle.canonical.specs.Sorting.GroupLaws.{chunk_next}
use Rattle.canonical.specs.Sorting.RemainingLaws.{remaining_next}
use Rattle.canonical.specs.Writing.ProgramLaws.{surveying_start, surveying_bound, surveying_many, surveying_next, surveying_end}
use Rattle.canonical.proofs.program.measure_program.Goals as goal

pub loop-group-init : goal.loop-group-init
loop-group-init c = (0, ap (λ x. x.rest.now) c.into_iter-group-iterator.ensures.into_iter_gives ∙ c.chunk_by-group-items.ensures.rest, surveying_start c.requires)

pub group_totals-totals-requires : goal.group_totals-totals-requires
group_totals-totals-requires c =
    let v = c.loop-group.invariant in
    let n = chunk_next v.1 c.in-Some.ensures.steps (answers_always _ _ _ (λ f a r k q. search (rules, tests))) in
    rw n.is (remaining_next v.2.remaining n.more n.ends).group

pub returns-then-totals-gt-LOCALS_LIMIT : goal.returns-then-totals-gt-LOCALS_LIMIT
returns-then-totals-gt-LOCALS_LIMIT c =
    let v = c.loop-group.invariant in
    let n = chunk_next v.1 c.in-Some.ensures.steps (answers_always _ _ _ (λ f a r k q. search (rules, tests))) in
    surveying_many v.2 n.more n.ends (rw n.is at c.group_totals-totals.ensures) (omega arith)

pub overflow_add-count : goal.overflow_add-count
overflow_add-count c =
    let v = c.loop-group.invariant in
    let n = chunk_next v.1 c.in-Some.ensures.steps (answers_always _ _ _ (λ f a r k q. search (rules, tests))) in
    omega (arith, (surveying_bound v.2 n.more n.ends (rw n.is at c.group_totals-totals.ensures)).0)

pub overflow_add-size : goal.overflow_add-size
overflow_add-size c =
    let v = c.loop-group.invariant in
    let n = chunk_next v.1 c.in-Some.ensures.steps (answers_always _ _ _ (λ f a r k q. search (rules, tests))) in
    omega (arith, (surveying_bound v.2 n.more n.ends (rw n.is at c.group_totals-totals.ensures)).1)

pub overflow_add-size-in-loop-group : goal.overflow_add-size-in-loop-group
overflow_add-size-in-loop-group c =
    let v = c.loop-group.invariant in
    let n = chunk_next v.1 c.in-Some.ensures.steps (answers_always _ _ _ (λ f a r k q. search (rules, tests))) in
    omega (arith, (surveying_bound v.2 n.more n.ends (rw n.is at c.group_totals-totals.ensures)).1)

pub loop-group-preserved : goal.loop-group-preserved
loop-group-preserved c =
    let v = c.loop-group.invariant in
    let n = chunk_next v.1 c.in-Some.ensures.steps (answers_always _ _ _ (λ f a r k q. search (rules, tests))) in
    (_, n.later_is, surveying_next v.2 n.more n.ends (rw n.is at c.group_totals-totals.ensures) (omega arith))

pub returns : goal.returns
returns c =
    let v = c.loop-group.invariant in
    surveying_end v.2 (omega (arith, length-drop v.0 c.args.sorted.now, ap length v.1, c.in-None.ensures.steps.0))
