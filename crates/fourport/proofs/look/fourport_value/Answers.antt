-- `fourport_value` hands on what `value` answers; a value's length fits four bytes.
use native.Mathlib.Omega.{arith}
use lib.ListN.{length}
use Rattle.records.specs.Gate.Gate.{read_event}
use Rattle.fourport.specs.AnswerLaws.{value_short, length_told}
use Rattle.fourport.proofs.look.fourport_value.Goals as goal

pub overflow_cast-written : goal.overflow_cast-written
overflow_cast-written c =
    let short = value_short (read_event c.args.event.now) (length c.args.out.now) c.args.v in
    record { fits = omega (arith, c.unwrap_or.ensures, length_told c.value-receipt.result, c.value-receipt.ensures.length_is, short) }
