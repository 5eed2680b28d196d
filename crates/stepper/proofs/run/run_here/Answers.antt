use mathlib.Core.Path.{refl}
use native.Mathlib.Omega.{arith}
use Rattle.records.specs.Format.HeadLaws.{front_known}
use Rattle.stepper.specs.Run.RunLoopLaws.{standing_first, ran_unlogged}
use borrow.Author.Rules.{rules}
use Rattle.stepper.proofs.run.run_here.Goals as goal

pub run_on-requires : goal.run_on-requires
run_on-requires c = let known = front_known c.args.len c.args.here.now (search rules) in
    record { run_stands = standing_first c.args.order _ known c.requires.both_passed c.requires.len_in_bounds.0 refl c.requires.ends_of c.started.ensures; taken_le_steps = rw c.started.ensures (omega arith); in_bounds = c.requires.len_in_bounds.1 }

pub returns : goal.returns
returns c =
    let known = front_known c.args.len c.args.here.now (search rules) in
    λ w. ran_unlogged c.type_inv.program known w c.args.order c.args.steps (c.run_on.ensures (standing_first c.args.order _ known w c.requires.len_in_bounds.0 refl c.requires.ends_of c.started.ensures)) refl (search rules)
