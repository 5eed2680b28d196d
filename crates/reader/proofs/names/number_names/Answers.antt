use native.Mathlib.Omega.{arith}
use Rattle.reader.specs.Names.NodeLaws.{full_marks}
use Rattle.reader.specs.Names.NamingLaws.{naming_start, naming_next, naming_end}
use Rattle.reader.proofs.names.number_names.Goals as goal

pub loop-k-init : goal.loop-k-init
loop-k-init c = naming_start c.args.trie.now.filled (full_marks _ c.args.trie.now.filled.full)

pub next_token-t-requires : goal.next_token-t-requires
next_token-t-requires c = c.loop-k.invariant.within

pub enter_item-e-requires : goal.enter_item-e-requires
enter_item-e-requires c = let inv = c.loop-k.invariant in
    let n = c.next_token-t.ensures in record {
      inside = record { order = n.ends; stop = omega (arith, n.follows, n.within) };
      from_bound = (
        omega (arith, c.requires.s_bound.0, inv.nodes_few, n.begins, n.follows, n.within),
        omega (arith, c.requires.s_bound.1, c.requires.count_in_bounds.0, inv.names_few),
        omega (arith, c.requires.s_bound.2, c.requires.count_in_bounds.0, inv.listed_few, inv.list_kept, n.begins, n.follows, n.within),
      );
    }

pub loop-k-preserved : goal.loop-k-preserved
loop-k-preserved c = naming_next c.loop-k.invariant c.next_token-t.ensures (omega arith) c.requires.count_in_bounds.1 c.enter_item-e.ensures

pub shape_of-numbers : goal.shape_of-numbers
shape_of-numbers c = c.loop-k.invariant.numbers_kept

pub shape_of-list : goal.shape_of-list
shape_of-list c = c.loop-k.invariant.list_kept

pub returns : goal.returns
returns c = naming_end c.loop-k.invariant (omega arith) c.requires.count_in_bounds.0
