-- A table of empty nodes holds no names.
use mathlib.Core.List.{[]}
use mathlib.Core.Path.{refl}
use Rattle.reader.specs.Names.NamingLaws.{nodes_none}
use Rattle.reader.proofs.trie.Trie.start.Goals as goal

pub invariant_of-result : goal.invariant_of-result
invariant_of-result c = record { filled = (nodes_none 65536 refl []).holds.filled }
