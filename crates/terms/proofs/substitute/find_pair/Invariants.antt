use Rattle.terms.specs.Values.Entries.{PairTable, pair_entries}
use Rattle.terms.specs.Values.EntryLaws.{Searching}
use mathlib.Core.List.{[]}
use Prim.Native.Nat.{◌≤◌}
use Rattle.terms.proofs.substitute.find_pair.Given as goal

abbrev pub invariant-loop-k : goal.invariant-loop-k
invariant-loop-k l = (l.k ≤ l.i) × ((p : PairTable l.pairs.event.now l.pairs.entries.now l.i) → Searching (pair_entries [] p.bets) l.v l.k)
