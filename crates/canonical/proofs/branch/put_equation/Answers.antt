-- `put_equation`: two kind bytes, the variable and the term, one after the other.
use native.Mathlib.Omega.{arith}
use Rattle.canonical.specs.Writing.EquationLaws.{equation_length, equation_put}
use Rattle.records.specs.Writing.PatchedLaws.{put_length}
use Rattle.terms.specs.Body.Renaming.{renamed}
use Rattle.records.specs.Ends.Traversal.{traverse}
use Rattle.canonical.proofs.branch.put_equation.Goals as goal

pub put_part-left_at-requires : goal.put_part-left_at-requires
put_part-left_at-requires c =
    let long = equation_length c.args.x (renamed c.args.base (traverse c.args.s.now c.args.pos 1 0)) in
    omega (arith, c.requires.pos_in_bounds, long)

pub write_variable-right_at-requires : goal.write_variable-right_at-requires
write_variable-right_at-requires c =
    let long = equation_length c.args.x (renamed c.args.base (traverse c.args.s.now c.args.pos 1 0)) in
    let part = c.put_part-left_at.ensures in
    omega (arith, c.requires.pos_in_bounds, long, part.place, put_length part)

pub write_renamed-requires : goal.write_renamed-requires
write_renamed-requires c = let long = equation_length c.args.x (renamed c.args.base (traverse c.args.s.now c.args.pos 1 0)) in
    let part = c.put_part-left_at.ensures in
    let name = c.write_variable-right_at.ensures in
    record { on = rw c.term.ensures c.requires.on; m_bound = c.requires.base_bound; goals_in_bounds = rw c.term.ensures (omega (arith, c.requires.pos_in_bounds, long, part.place, put_length part, name.place, put_length name)) }

pub returns : goal.returns
returns c = equation_put _ c.put_part-left_at.ensures c.write_variable-right_at.ensures (rw c.term.ensures at c.write_renamed.ensures)
