use Rattle.std.proofs.Common.{◌<◌, sym, ◌∙◌, arith}
use Rattle.reader.specs.Names.NodeLaws.{node_child, node_sibling, node_letter}
use Rattle.reader.specs.Names.Trie.Sought.{lost, here, further}
use Rattle.reader.proofs.trie.Trie.child_of.Goals as goal

pub loop-m-init : goal.loop-m-init
loop-m-init c =
    let e = c.from-m.ensures ∙ sym (node_child c.args.self.now.nodes c.args.p) in
    (omega (arith, c.from-m.ensures), λ r s. rw e at s)

pub returns-then-node-b : goal.returns-then-node-b
returns-then-node-b c =
    let some : 0 < c.loop-m.m = omega (arith, c.loop-m-test.true) in
    (some, c.loop-m.invariant.1 c.loop-m.m (here some (node_letter c.args.self.now.nodes c.loop-m.m ∙ c.if-node-b.true)))

pub loop-m-smaller : goal.loop-m-smaller
loop-m-smaller c =
    omega (arith, c.args.self.now.filled.full.older c.loop-m.m (omega (arith, c.loop-m-test.true)), c.from-m-in-loop-m.ensures, node_sibling c.args.self.now.nodes c.loop-m.m)

pub loop-m-preserved : goal.loop-m-preserved
loop-m-preserved c =
    let some : 0 < c.loop-m.m = omega (arith, c.loop-m-test.true) in
    let e = c.from-m-in-loop-m.ensures ∙ sym (node_sibling c.args.self.now.nodes c.loop-m.m) in
    (omega (arith, c.args.self.now.filled.full.older c.loop-m.m some, c.loop-m.invariant.0, e), λ r s. c.loop-m.invariant.1 r (further some (λ q. c.if-node-b.false (sym (node_letter c.args.self.now.nodes c.loop-m.m) ∙ q)) (rw e at s)))

pub returns : goal.returns
returns c = c.loop-m.invariant.1 0 (rw c.loop-m-test.false lost)
