use Rattle.terms.specs.Values.Replacing.{pairs_left}
use Rattle.terms.specs.Values.EntryLaws.{table_taken}
use Rattle.terms.specs.Values.LinksLaws.{linked_taken}
use Rattle.terms.specs.Values.ReplacingLaws.{replaces_pairs, linked_pairs, bound_fewer}
use Rattle.terms.specs.Values.AheadLaws.{ahead_on, ahead_less, ahead_less_other, variable_at, other_at}
use Rattle.terms.specs.Values.FittedLaws.{fitting_start, fitting_more, fitting_large, fitting_room, fitting_done, fitted_stands}
use Rattle.records.specs.Ends.Traversal.Node.{variable, other}
use Rattle.records.specs.Ends.StandsLaws.{stands_within, stands_inside}
use Rattle.records.specs.Writing.PatchedLaws.{put_length}
use Rattle.std.proofs.Common.{ap, length-take-le}
use Rattle.std.specs.Prelude.{Some}
use mathlib.Core.Path.{◌∙◌}
use native.Mathlib.Omega.{arith}
use Rattle.terms.proofs.substitute.+put_nodes_put_variable.Goals as goal

pub put_nodes-loop-step-init : goal.put_nodes-loop-step-init
put_nodes-loop-step-init t c = λ θ p. fitting_start c.requires.on

pub put_nodes-next_node-requires : goal.put_nodes-next_node-requires
put_nodes-next_node-requires t c = ahead_on (c.loop-step.invariant c.requires.replaces.0 c.requires.replaces.1).ahead

pub put_nodes-slice_bounds-put_variable-count : goal.put_nodes-slice_bounds-put_variable-count
put_nodes-slice_bounds-put_variable-count t c = omega (arith, (c.loop-step.invariant c.requires.replaces.0 c.requires.replaces.1).room)

pub put_nodes-slice_bounds-put_variable-start : goal.put_nodes-slice_bounds-put_variable-start
put_nodes-slice_bounds-put_variable-start t c = omega (arith, (c.loop-step.invariant c.requires.replaces.0 c.requires.replaces.1).room)

pub put_nodes-slice_bounds-put_variable-end : goal.put_nodes-slice_bounds-put_variable-end
put_nodes-slice_bounds-put_variable-end t c = omega (arith, (c.loop-step.invariant c.requires.replaces.0 c.requires.replaces.1).room)

pub put_nodes-put_variable-requires : goal.put_nodes-put_variable-requires
put_nodes-put_variable-requires t c = (omega (arith, c.decreases), (c.requires.replaces, (c.requires.linked, (ahead_less (c.loop-step.invariant c.requires.replaces.0 c.requires.replaces.1).ahead c.type_inv.s c.next_node.ensures (c.in-Some.is ∙ ap Some c.in-Variable.is)).2)))

pub put_nodes-returns-in_err-m-in-Variable : goal.put_nodes-returns-in_err-m-in-Variable
put_nodes-returns-in_err-m-in-Variable t c = λ θ p. rw c.from_residual.ensures (fitting_large (c.loop-step.invariant θ p) (variable _) _ (variable_at (c.loop-step.invariant θ p).ahead c.type_inv.s c.next_node.ensures (c.in-Some.is ∙ ap Some c.in-Variable.is)).node (c.put_variable.ensures θ p) c.in_err-m-in-Variable.was)

pub put_nodes-overflow_add-len : goal.put_nodes-overflow_add-len
put_nodes-overflow_add-len t c = omega (arith, put_length (c.loop-step.invariant c.requires.replaces.0 c.requires.replaces.1).put, fitting_room (c.loop-step.invariant c.requires.replaces.0 c.requires.replaces.1) (variable _) _ (variable_at (c.loop-step.invariant c.requires.replaces.0 c.requires.replaces.1).ahead c.type_inv.s c.next_node.ensures (c.in-Some.is ∙ ap Some c.in-Variable.is)).node (c.put_variable.ensures c.requires.replaces.0 c.requires.replaces.1) c.in_ok-m-in-Variable.was)

pub put_nodes-loop-step-smaller-in-Variable : goal.put_nodes-loop-step-smaller-in-Variable
put_nodes-loop-step-smaller-in-Variable t c = omega (arith, stands_within (variable_at (c.loop-step.invariant c.requires.replaces.0 c.requires.replaces.1).ahead c.type_inv.s c.next_node.ensures (c.in-Some.is ∙ ap Some c.in-Variable.is)).stands (omega arith))

pub put_nodes-loop-step-preserved-in-Variable : goal.put_nodes-loop-step-preserved-in-Variable
put_nodes-loop-step-preserved-in-Variable t c = λ θ p. fitting_more (c.loop-step.invariant θ p) (variable _) _ (variable_at (c.loop-step.invariant θ p).ahead c.type_inv.s c.next_node.ensures (c.in-Some.is ∙ ap Some c.in-Variable.is)).node (c.put_variable.ensures θ p) c.in_ok-m-in-Variable.was

pub put_nodes-slice_bounds-put_piece-count : goal.put_nodes-slice_bounds-put_piece-count
put_nodes-slice_bounds-put_piece-count t c = omega (arith, (c.loop-step.invariant c.requires.replaces.0 c.requires.replaces.1).room)

pub put_nodes-slice_bounds-put_piece-start : goal.put_nodes-slice_bounds-put_piece-start
put_nodes-slice_bounds-put_piece-start t c = omega (arith, (c.loop-step.invariant c.requires.replaces.0 c.requires.replaces.1).room)

pub put_nodes-slice_bounds-put_piece-end : goal.put_nodes-slice_bounds-put_piece-end
put_nodes-slice_bounds-put_piece-end t c = omega (arith, (c.loop-step.invariant c.requires.replaces.0 c.requires.replaces.1).room)

pub put_nodes-put_piece-requires : goal.put_nodes-put_piece-requires
put_nodes-put_piece-requires t c = let u = (c.loop-step.invariant c.requires.replaces.0 c.requires.replaces.1).ahead in stands_inside (other_at u c.type_inv.s c.next_node.ensures (c.in-Some.is ∙ ap Some c.in-Other.is)).stands (ahead_less_other u c.type_inv.s c.next_node.ensures (c.in-Some.is ∙ ap Some c.in-Other.is)).1

pub put_nodes-returns-in_err-m-in-Other : goal.put_nodes-returns-in_err-m-in-Other
put_nodes-returns-in_err-m-in-Other t c = λ θ p. let a = other_at (c.loop-step.invariant θ p).ahead c.type_inv.s c.next_node.ensures (c.in-Some.is ∙ ap Some c.in-Other.is) in rw c.from_residual-in_err-m-in-Other.ensures (fitting_large (c.loop-step.invariant θ p) (other _) _ a.node (fitted_stands a.stands c.put_piece.ensures) c.in_err-m-in-Other.was)

pub put_nodes-overflow_add-len-in-Other : goal.put_nodes-overflow_add-len-in-Other
put_nodes-overflow_add-len-in-Other t c = let a = other_at (c.loop-step.invariant c.requires.replaces.0 c.requires.replaces.1).ahead c.type_inv.s c.next_node.ensures (c.in-Some.is ∙ ap Some c.in-Other.is) in omega (arith, put_length (c.loop-step.invariant c.requires.replaces.0 c.requires.replaces.1).put, fitting_room (c.loop-step.invariant c.requires.replaces.0 c.requires.replaces.1) (other _) _ a.node (fitted_stands a.stands c.put_piece.ensures) c.in_ok-m-in-Other.was)

pub put_nodes-loop-step-smaller : goal.put_nodes-loop-step-smaller
put_nodes-loop-step-smaller t c = omega (arith, ahead_less_other (c.loop-step.invariant c.requires.replaces.0 c.requires.replaces.1).ahead c.type_inv.s c.next_node.ensures (c.in-Some.is ∙ ap Some c.in-Other.is))

pub put_nodes-loop-step-preserved : goal.put_nodes-loop-step-preserved
put_nodes-loop-step-preserved t c = λ θ p. let a = other_at (c.loop-step.invariant θ p).ahead c.type_inv.s c.next_node.ensures (c.in-Some.is ∙ ap Some c.in-Other.is) in fitting_more (c.loop-step.invariant θ p) (other _) _ a.node (fitted_stands a.stands c.put_piece.ensures) c.in_ok-m-in-Other.was

pub put_nodes-shape_of-out : goal.put_nodes-shape_of-out
put_nodes-shape_of-out t c = put_length (c.loop-step.invariant c.requires.replaces.0 c.requires.replaces.1).put

pub put_nodes-returns : goal.put_nodes-returns
put_nodes-returns t c = λ θ p. fitting_done (c.loop-step.invariant θ p) c.type_inv.s c.next_node.ensures c.in_default.is

pub put_variable-put_numbered-requires : goal.put_variable-put_numbered-requires
put_variable-put_numbered-requires t c = let w = c.requires.replaces.1.numbers c.in-Numbered.is in record { arguments_of = w.0; next_bound = (w.2, c.requires.v_bound) }

pub put_variable-find_value-requires : goal.put_variable-find_value-requires
put_variable-find_value-requires t c = record { pair_table = (c.requires.replaces.1.pairs c.in-Pairs.is).0; pairs_linked = c.requires.linked.pairs c.in-Pairs.is }

pub put_variable-slice_bounds-by-end : goal.put_variable-slice_bounds-by-end
put_variable-slice_bounds-by-end t c = let q = c.requires.replaces.1.pairs c.in-Pairs.is in let b = (c.find_value.ensures q.0).bound c.in-To.is in omega (arith, b.fewer, length-take-le c.in-To.above c.in-Pairs.pairs.entries.now b.table.held)

pub put_variable-put_nodes-requires : goal.put_variable-put_nodes-requires
put_variable-put_nodes-requires t c =
    let q = c.requires.replaces.1.pairs c.in-Pairs.is in
    let b = (c.find_value.ensures q.0).bound c.in-To.is in (
      omega (arith, c.decreases, ap pairs_left c.in-Pairs.is, bound_fewer b),
      ((_, replaces_pairs (table_taken b.table)), (linked_pairs (linked_taken (c.requires.linked.pairs c.in-Pairs.is) (omega (arith, b.fewer)) b.table.held), rw c.term.ensures b.on)),
    )

pub put_variable-returns-in-Numbered : goal.put_variable-returns-in-Numbered
put_variable-returns-in-Numbered t c = λ θ w. let q = w.numbers c.in-Numbered.is in rw q.1 (c.put_numbered.ensures q.0)

pub put_variable-returns-in-Free : goal.put_variable-returns-in-Free
put_variable-returns-in-Free t c = λ θ w. let q = w.pairs c.in-Pairs.is in rw (q.1, (c.find_value.ensures q.0).free c.in-Free.is) c.put_itself.ensures

pub put_variable-returns-in-To : goal.put_variable-returns-in-To
put_variable-returns-in-To t c = λ θ w. let q = w.pairs c.in-Pairs.is in let b = (c.find_value.ensures q.0).bound c.in-To.is in rw (q.1, ← b.bytes) (rw c.term.ensures at (c.put_nodes.ensures _ (replaces_pairs (table_taken b.table))))
