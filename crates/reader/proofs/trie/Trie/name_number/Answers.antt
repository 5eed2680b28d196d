-- At the word's node stands its number, or it gets the next one.
use Rattle.std.proofs.Common.{◌+◌, sym, ap, ◌∙◌, arith, List, ℕ, get_or}
use Rattle.reader.specs.Names.HoldsLaws.{given_old, given_new}
use Rattle.reader.specs.Names.NodeLaws.{full_marks, node_mark, numbered_tables, numbered_marks}
use Rattle.reader.proofs.trie.Trie.name_number.Goals as goal

pub node_of-node-requires : goal.node_of-node-requires
node_of-node-requires c = record { word_fits = c.requires.0 }

pub returns-then-mark-ne0 : goal.returns-then-mark-ne0
returns-then-mark-ne0 c =
    let n = c.node_of-node.ensures in
    let t = c.node_of-node.new.self.nodes in
    let node = c.node_of-node.result in
    let e = sym (node_mark t node) ∙ ap (λ (l : List ℕ). get_or l node 0) n.numbers.0 in
    rw (c.from.ensures, n.numbers.0, n.numbers.1) (given_old n.made (full_marks _ c.args.self.now.filled.full) e c.if-mark-ne0.true (omega arith))

pub invariant_of-self : goal.invariant_of-self
invariant_of-self c =
    let t = c.node_of-node.new.self in
    record { filled = rw (numbered_tables t.nodes c.node_of-node.result (t.names + 1)) t.filled }

pub returns : goal.returns
returns c =
    let n = c.node_of-node.ensures in
    let t = c.node_of-node.new.self in
    let node = c.node_of-node.result in
    let e = sym (node_mark t.nodes node) ∙ ap (λ (l : List ℕ). get_or l node 0) n.numbers.0 in
    rw (numbered_tables t.nodes node (t.names + 1), numbered_marks t.nodes node (t.names + 1), n.numbers.0, n.numbers.1) (given_new n.made (full_marks _ c.args.self.now.filled.full) e c.if-mark-ne0.false (omega (arith, c.requires.1)))
