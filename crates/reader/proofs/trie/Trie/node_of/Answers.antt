use Rattle.std.proofs.Common.{◌≡◌, refl, ◌∙◌, arith, length, length-take}
use Rattle.std.proofs.Math.Seq.{take-length}
use Rattle.reader.specs.Names.NewNodeLaws.{node_start, node_next}
use Rattle.reader.proofs.trie.Trie.node_of.Goals as goal

pub loop-b-init : goal.loop-b-init
loop-b-init c = record { made = node_start c.args.self.now.filled; numbers = (refl, refl) }

pub make_child-node-requires : goal.make_child-node-requires
make_child-node-requires c =
    let w = c.loop-b.invariant.made in
    record { p_lt_used = (w.below, omega (arith, w.few, length-take c.loop-b.b-index c.args.word.now)) }

pub loop-b-preserved : goal.loop-b-preserved
loop-b-preserved c =
    let w = c.loop-b.invariant in
    let m = c.make_child-node.ensures in
    record { made = node_next _ _ (omega arith) w.made m.made; numbers = (m.numbers.0 ∙ w.numbers.0, m.numbers.1 ∙ w.numbers.1) }

pub returns : goal.returns
returns c =
    let w = c.loop-b.invariant in
    let e : c.loop-b.b-index ≡ length c.args.word.now = omega arith in
    record { made = rw (e, take-length c.args.word.now) at w.made; numbers = w.numbers }
