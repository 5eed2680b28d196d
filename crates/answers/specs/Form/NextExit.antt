-- The order of the run that comes to the next answer: forward to the next exit with one ancestor, with no log.
use Rattle.std.specs.Prelude.{true, false, [], Some}
use Rattle.stepper.specs.Run.Run.{Aim, Order}
use Rattle.stepper.specs.Run.RunLoop.{aim_of, asked}
use Rattle.stepper.specs.declared.run.RunAim.{RunAim}
use Rattle.stepper.specs.declared.run.RunOrder.{RunOrder}

-- in code
abbrev pub at_exit : RunAim
at_exit = record { call = false; exit = true; fail = false; redo = false; ancestors = 1 }

abbrev pub exit_order : RunOrder
exit_order = record { back = false; aim = Some at_exit; logged = false }

-- and what it asks of a run
abbrev pub exit_aim : Aim
exit_aim = aim_of at_exit

abbrev pub to_next_exit : Order
to_next_exit = asked exit_order []
