-- `linked_value` is the one writer over a term, by the pairs that are listed and linked.
use Rattle.terms.specs.Values.ReplacingLaws.{replaces_pairs, linked_pairs}
use Rattle.terms.specs.Values.AnsweredLaws.{answered}
use Rattle.terms.specs.Values.AppliedLaws.{term_on}
use Rattle.terms.proofs.apply.linked_value.Goals as goal

pub put_nodes-requires : goal.put_nodes-requires
put_nodes-requires c = record { replaces = (_, replaces_pairs c.requires.pairs_of.1.listed.table); linked = linked_pairs c.requires.pairs_of.1.linked; on = term_on c.requires.by_index.1 }

pub returns : goal.returns
returns c = λ bets l to q. answered l.listed q c.requires.out_len (c.put_nodes.ensures _ (replaces_pairs l.listed.table))
