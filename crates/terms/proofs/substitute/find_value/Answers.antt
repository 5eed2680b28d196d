use Rattle.std.specs.Prelude.{Some}
use mathlib.Core.Path.{refl, ap, ◌∙◌}
use native.Mathlib.Omega.{arith}
use Rattle.terms.specs.Values.LinksLaws.{linked_fewer}
use Rattle.terms.specs.Values.ReplacingLaws.{found_free, found_bound, following_free, following_within, following_room, following_bound, following_less, following_next}
use Rattle.terms.proofs.substitute.find_value.Goals as goal

pub loop-k-init : goal.loop-k-init
loop-k-init c = λ p. record { left = p; same = refl; fewer = omega arith }

pub find_pair-requires : goal.find_pair-requires
find_pair-requires c = let u = c.loop-k.invariant c.requires.pair_table in
    record { i_in_bounds = u.left.held; pairs_linked = linked_fewer c.requires.pairs_linked u.fewer }

pub returns-in_default : goal.returns-in_default
returns-in_default c = λ p. let u = c.loop-k.invariant p in found_free (following_free u (c.find_pair.ensures u.left) c.in_default.is)

pub offset_bounds-pairs-k : goal.offset_bounds-pairs-k
offset_bounds-pairs-k c = let u = c.loop-k.invariant c.requires.pair_table in omega (arith, following_within u (c.find_pair.ensures u.left) c.in-Some.is)

pub bounds-pairs-k : goal.bounds-pairs-k
bounds-pairs-k c = let u = c.loop-k.invariant c.requires.pair_table in following_within u (c.find_pair.ensures u.left) c.in-Some.is

pub overflow_add-term : goal.overflow_add-term
overflow_add-term c = let u = c.loop-k.invariant c.requires.pair_table in omega (arith, following_room u (c.find_pair.ensures u.left) c.in-Some.is)

pub returns-in_default-term_head : goal.returns-in_default-term_head
returns-in_default-term_head c = λ p. let u = c.loop-k.invariant p in found_bound (following_bound u (c.find_pair.ensures u.left) c.in-Some.is)

pub returns-in_default-term_head-2 : goal.returns-in_default-term_head-2
returns-in_default-term_head-2 c = λ p. let u = c.loop-k.invariant p in found_bound (following_bound u (c.find_pair.ensures u.left) c.in-Some.is)

pub loop-k-smaller : goal.loop-k-smaller
loop-k-smaller c = let u = c.loop-k.invariant c.requires.pair_table in following_less u (c.find_pair.ensures u.left) c.in-Some.is

pub loop-k-preserved : goal.loop-k-preserved
loop-k-preserved c = λ p. let u = c.loop-k.invariant p in following_next u (c.find_pair.ensures u.left) c.in-Some.is c.term_head.ensures (c.in-Some-Variable.is ∙ ap Some c.in-Some-Variable.field-0-is)
