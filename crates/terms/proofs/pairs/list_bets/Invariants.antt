-- `list_bets`: the pairs of some bets are entered, the other bets stand at the position.
use mathlib.Core.Path.{◌≡◌}
use Prim.Native.Nat.{◌-◌}
use lib.ListN.{length}
use Rattle.terms.specs.Standing.BetRow.{RuledBets}
use Rattle.terms.specs.Values.ListingLaws.{BetsListing}
use Rattle.terms.proofs.pairs.list_bets.Given as goal

abbrev pub invariant-loop : goal.invariant-loop
invariant-loop l = ((p : RuledBets l.event l.at l.n) → BetsListing l.event p.row.items l.entries l.pos (l.n - l.counter) l.k) × (length l.entries ≡ length l.initial.entries)
