use native.Mathlib.Omega.{arith}
use mathlib.Core.Path.{ap, ◌∙◌}
use Rattle.std.specs.Prelude.{length}
use Rattle.std.proofs.Common.{rules, tests, length-drop}
use Rattle.std.proofs.lemmas.List.Sorted.{answers_always}
use Rattle.canonical.specs.Sorting.GroupLaws.{chunk_next}
use Rattle.canonical.specs.Sorting.RemainingLaws.{remaining_next}
use Rattle.canonical.specs.Writing.ProgramLaws.{defining_start, defining_locals, defining_room, defining_next, defining_end}
use Rattle.canonical.proofs.program.put_definitions.Goals as goal

pub loop-group-init : goal.loop-group-init
loop-group-init c = (0, ap (λ x. x.rest.now) c.into_iter-group-iterator.ensures.into_iter_gives ∙ c.chunk_by-group-items.ensures.rest, defining_start c.requires.remaining c.requires.s_value _ _)

pub put_definition-at-requires : goal.put_definition-at-requires
put_definition-at-requires c =
    let v = c.loop-group.invariant in
    let n = chunk_next v.1 c.in-Some.ensures.steps (answers_always _ _ _ (λ f a r k q. search (rules, tests))) in
    let r = remaining_next v.2.remaining n.more n.ends in
    rw n.is (record { group_at = r.group; group_nonzero = omega (arith, r.long, r.forth); group_bound = defining_locals v.2 n.more n.ends; group_in_bounds = defining_room v.2 n.more n.ends c.requires.s_in_bounds })

pub loop-group-preserved : goal.loop-group-preserved
loop-group-preserved c =
    let v = c.loop-group.invariant in
    let n = chunk_next v.1 c.in-Some.ensures.steps (answers_always _ _ _ (λ f a r k q. search (rules, tests))) in
    (_, n.later_is, defining_next v.2 n.more n.ends (rw n.is at c.put_definition-at.ensures))

pub returns : goal.returns
returns c =
    let v = c.loop-group.invariant in
    defining_end v.2 (omega (arith, length-drop v.0 c.args.sorted.now, ap length v.1, c.in-None.ensures.steps.0))
