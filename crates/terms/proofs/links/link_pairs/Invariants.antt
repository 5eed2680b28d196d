-- `link_pairs`: the entries before j are linked.
use mathlib.Core.Path.{◌≡◌}
use lib.ListN.{length}
use Rattle.terms.specs.Values.Links.{PairsLinked}
use Rattle.terms.proofs.links.link_pairs.Given as goal

abbrev pub invariant-loop-j : goal.invariant-loop-j
invariant-loop-j l = PairsLinked l.event l.entries l.j l.links × (length l.links ≡ length l.initial.links)
