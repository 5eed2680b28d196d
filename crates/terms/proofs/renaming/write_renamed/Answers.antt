-- `write_renamed` is the one writer with a table of no arguments, where there is room.
use native.Mathlib.Omega.{arith}
use Rattle.records.specs.Ends.Steps.{traverse_from}
use Rattle.terms.specs.Body.RenamingLaws.{no_arguments, renamed_within, renamed_put, renamed_never}
use Rattle.terms.specs.Values.ReplacingLaws.{replaces_numbers, linked_numbers}
use Rattle.terms.proofs.renaming.write_renamed.Goals as goal

pub put_nodes-requires : goal.put_nodes-requires
put_nodes-requires c = record { replaces = (_, replaces_numbers (no_arguments c.args.s.now) c.requires.m_bound); linked = linked_numbers; on = c.requires.on }

pub overflow_add-result : goal.overflow_add-result
overflow_add-result c =
    omega (arith, renamed_within c.args.m (traverse_from c.args.s.now c.args.start) c.args.out.now c.args.first c.requires.goals_in_bounds (c.put_nodes.ensures _ (replaces_numbers (no_arguments c.args.s.now) c.requires.m_bound)) c.in-Some.is)

pub returns-in-Some : goal.returns-in-Some
returns-in-Some c =
    renamed_put c.args.m (traverse_from c.args.s.now c.args.start) c.args.out.now c.args.first c.requires.goals_in_bounds (c.put_nodes.ensures _ (replaces_numbers (no_arguments c.args.s.now) c.requires.m_bound)) c.in-Some.is

pub returns-in-None : goal.returns-in-None
returns-in-None c =
    absurd (renamed_never c.args.m (traverse_from c.args.s.now c.args.start) c.args.out.now c.args.first c.requires.goals_in_bounds (c.put_nodes.ensures _ (replaces_numbers (no_arguments c.args.s.now) c.requires.m_bound)) c.in-None.is)
