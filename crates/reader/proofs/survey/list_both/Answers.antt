use mathlib.Core.List.{[]}
use mathlib.Core.Path.{refl, ◌∙◌}
use native.Mathlib.Omega.{arith}
use Rattle.reader.specs.Names.NamingLaws.{nodes_none}
use Rattle.reader.proofs.survey.list_both.Goals as goal

pub number_names-own-requires : goal.number_names-own-requires
number_names-own-requires c = let t = c.start-trie.ensures in record { count_in_bounds = c.requires.count_in_bounds; s_bound = (omega (arith, c.requires.query_len_bound.0, t.1), omega (arith, c.requires.query_len_bound.0, t.2), omega (arith, c.requires.query_len_bound.1)) }

pub number_names-requires : goal.number_names-requires
number_names-requires c = let n = c.number_names-own.ensures in let t = c.start-trie.ensures in record { count_in_bounds = (c.requires.n_in_bounds.0, omega (arith, c.requires.n_in_bounds.1, n.numbers_kept)); s_bound = (omega (arith, c.requires.query_len_bound.0, n.nodes_few, t.1), omega (arith, c.requires.query_len_bound.0, n.names_few, t.2), omega (arith, c.requires.query_len_bound.1, n.listed_few, n.list_kept)) }

pub returns : goal.returns
returns c = let n = c.number_names-own.ensures in let m = c.number_names.ensures in let e = c.start-trie.ensures in (m.numbers_kept ∙ n.numbers_kept, m.list_kept ∙ n.list_kept, λ is js t s u v. let a = n.named is [] t s (rw (e.0, e.1, e.2) (nodes_none 65536 refl _)) in let b = m.named js _ u v a.held in record { numbers_are = b.numbers_are; listed_is = b.held.long; names_are = b.held.bytes })
