-- `number_names`: item by item, with the names so far and those that follow.
use Rattle.std.proofs.Common.{length}
use Rattle.reader.specs.Names.Naming.{naming, NamingAt}
use Rattle.reader.specs.Names.Trie.{links, marks}
use Rattle.reader.proofs.names.number_names.Given as goal

abbrev pub invariant-loop-k : goal.invariant-loop-k
invariant-loop-k l =
    NamingAt l.s l.roles (length l.roles) l.initial.numbers (links l.initial.trie.nodes) (marks l.initial.trie.nodes) l.initial.list (naming l.initial.trie l.initial.listed) l.numbers (links l.trie.nodes) (marks l.trie.nodes) l.list l.at l.k (naming l.trie l.listed)
