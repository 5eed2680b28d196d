-- `look_from` begins at the link where it is below i.
use native.Mathlib.Omega.{arith}
use Rattle.terms.specs.Values.LinksLaws.{look_all, look_linked}
use Rattle.terms.proofs.links.look_from.Goals as goal

pub returns-in-Some : goal.returns-in-Some
returns-in-Some c = let here = c.in-Some.ensures.lookup.3 in look_linked here.0 (omega (arith, here.1 0))

pub returns-in-None : goal.returns-in-None
returns-in-None c = look_all
