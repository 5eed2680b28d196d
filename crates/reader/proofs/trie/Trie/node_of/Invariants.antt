-- The tables lead from the root by the bytes so far.
use Rattle.std.proofs.Common.{◌≡◌, take}
use Rattle.reader.specs.Names.Trie.{links, marks}
use Rattle.reader.specs.Names.NewNode.{NodeMade}
use Rattle.reader.proofs.trie.Trie.node_of.Given as goal

abbrev pub invariant-loop-b : goal.invariant-loop-b
invariant-loop-b l = record {
  made : NodeMade (links l.initial.self.nodes) l.initial.self.used (take l.b-index l.word) (links l.self.nodes) l.self.used l.node;
  numbers : (marks l.self.nodes ≡ marks l.initial.self.nodes) × (l.self.names ≡ l.initial.self.names);
}
