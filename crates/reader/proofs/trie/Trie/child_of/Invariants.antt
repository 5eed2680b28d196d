-- What is sought from m on is what is sought from the child of p on. Siblings are older, so the node's number is the measure.
use Rattle.std.proofs.Common.{ℕ, ◌<◌, get_or}
use Rattle.reader.specs.Names.Trie.{links, Sought}
use Rattle.reader.proofs.trie.Trie.child_of.Given as goal

abbrev pub invariant-loop-m : goal.invariant-loop-m
invariant-loop-m l = (l.m < 65536) × ((r : ℕ) → Sought (links l.self.nodes) l.b l.m r → Sought (links l.self.nodes) l.b (get_or (links l.self.nodes).child l.p 0) r)

abbrev pub decreases-loop-m : goal.decreases-loop-m
decreases-loop-m l = l.m
