-- The child is there, or the new node is it.
use Rattle.std.proofs.Common.{refl}
use Rattle.reader.specs.Names.NewNodeLaws.{child_there, child_made}
use Rattle.reader.specs.Names.NodeLaws.{linked_tables, linked_marks}
use Rattle.reader.proofs.trie.Trie.make_child.Goals as goal

pub returns-in-Some : goal.returns-in-Some
returns-in-Some c = record { made = child_there _ _ c.args.self.now.filled c.in-Some.ensures.1 c.in-Some.ensures.0; numbers = (refl, refl) }

pub invariant_of-self : goal.invariant_of-self
invariant_of-self c =
    let t = c.args.self.now in
    let below = c.requires.p_lt_used.0 in
    record { filled = rw (linked_tables t.nodes t.used c.args.p c.args.b below) (child_made _ _ t.filled c.in_default.ensures below c.requires.p_lt_used.1 refl).filled }

pub returns : goal.returns
returns c =
    let t = c.args.self.now in
    let below = c.requires.p_lt_used.0 in
    record {
      made = rw (linked_tables t.nodes t.used c.args.p c.args.b below) (child_made _ _ t.filled c.in_default.ensures below c.requires.p_lt_used.1 refl);
      numbers = (linked_marks t.nodes t.used c.args.p c.args.b below, refl);
    }
