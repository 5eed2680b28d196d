use mathlib.Core.Path.{refl, ◌∙◌}
use native.Mathlib.Omega.{arith}
use Rattle.terms.specs.Values.LinksLaws.{linked_start, linked_fewer, linked_next}
use Rattle.terms.proofs.links.link_pairs.Goals as goal

pub loop-j-init : goal.loop-j-init
loop-j-init c = (linked_start, refl)

pub loop-j-preserved : goal.loop-j-preserved
loop-j-preserved c =
    let one = c.link_pair.ensures in
    let u = c.loop-j.invariant in
    (linked_next u.0 one, one.long ∙ u.1)

pub shape_of-links : goal.shape_of-links
shape_of-links c = c.loop-j.invariant.1

pub returns : goal.returns
returns c = linked_fewer c.loop-j.invariant.0 (omega (arith, c.loop-j-test.false))
