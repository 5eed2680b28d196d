use mathlib.Core.List.{[]}
use mathlib.Core.Path.{refl}
use native.Mathlib.Omega.{arith}
use Rattle.reader.specs.Names.NamingLaws.{nodes_none}
use Rattle.reader.proofs.survey.list_names.Goals as goal

pub number_names-requires : goal.number_names-requires
number_names-requires c = let t = c.start-trie.ensures in record { count_in_bounds = c.requires.count_in_bounds; s_bound = (omega (arith, c.requires.text_len_bound.0, t.1), omega (arith, c.requires.text_len_bound.0, t.2), omega (arith, c.requires.text_len_bound.1)) }

pub returns : goal.returns
returns c = let n = c.number_names.ensures in let e = c.start-trie.ensures in (n.numbers_kept, n.list_kept, λ is t s. let a = n.named is [] t s (rw (e.0, e.1, e.2) (nodes_none 65536 refl _)) in record { numbers_are = a.numbers_are; listed_is = a.held.long; names_are = a.held.bytes })
