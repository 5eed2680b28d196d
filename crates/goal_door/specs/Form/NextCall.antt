-- The order of the run that comes to the next call: back to the next call with so many ancestors, with no log.
use Rattle.std.specs.Prelude.{true, false, [], ℕ, Some}
use Rattle.stepper.specs.Run.Run.{Aim, Order}
use Rattle.stepper.specs.Run.RunLoop.{aim_of, asked}
use Rattle.stepper.specs.declared.run.RunAim.{RunAim}
use Rattle.stepper.specs.declared.run.RunOrder.{RunOrder}

-- in code
abbrev pub at_call : (ancestors : ℕ) → RunAim
at_call n = record { call = true; exit = false; fail = false; redo = false; ancestors = n }

abbrev pub call_order : (ancestors : ℕ) → RunOrder
call_order n = record { back = true; aim = Some (at_call n); logged = false }

-- and what it asks of a run
abbrev pub call_aim : (ancestors : ℕ) → Aim
call_aim n = aim_of (at_call n)

abbrev pub to_next_call : (ancestors : ℕ) → Order
to_next_call n = asked (call_order n) []
