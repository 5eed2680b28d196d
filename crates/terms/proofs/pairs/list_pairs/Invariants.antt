-- `list_pairs`: some pairs are entered, the others stand at the position.
use mathlib.Core.Path.{◌≡◌}
use lib.ListN.{length}
use Rattle.terms.specs.Standing.Frames.{PairsAt}
use Rattle.terms.specs.Values.ListingLaws.{PairsListing}
use Rattle.terms.proofs.pairs.list_pairs.Given as goal

abbrev pub invariant-loop-k : goal.invariant-loop-k
invariant-loop-k l = ((p : PairsAt l.event l.at l.n) → PairsListing l.event p.items l.first l.initial.entries l.end l.entries l.place l.k) × (length l.entries ≡ length l.initial.entries)
