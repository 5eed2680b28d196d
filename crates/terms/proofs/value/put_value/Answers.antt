use Rattle.terms.specs.Values.ValueLaws.{value_no_room, value_large, value_copied, value_inside, value_room}
use native.Mathlib.Omega.{arith}
use borrow.Author.Rules.{rules}
use Rattle.terms.proofs.value.put_value.Goals as goal

pub returns-then-out-lt-RECORD_LIMIT : goal.returns-then-out-lt-RECORD_LIMIT
returns-then-out-lt-RECORD_LIMIT c = λ p. value_no_room _ (omega arith)

pub variable_value-requires : goal.variable_value-requires
variable_value-requires c = record { ruled_bets = c.requires.ruled_bets; buffers = record { entries = omega (arith, c.requires.event_len_bound); limit = search rules } }

pub returns-in_default : goal.returns-in_default
returns-in_default c =
    λ p. let w = value_large (c.variable_value.ensures p) {before = c.args.out.now} (omega arith) c.in_default.is in rw c.in_default.is at w

pub put_range-requires : goal.put_range-requires
put_range-requires c = let w = c.variable_value.ensures c.requires.ruled_bets in
    record { inside = value_inside w c.in-Some.is; from_in_bounds = value_room w c.in-Some.is (omega arith) }

pub returns : goal.returns
returns c =
    λ p. let w = value_copied (c.variable_value.ensures p) c.in-Some.is {before = c.args.out.now} (omega arith) c.put_range.ensures in rw c.in-Some.is at w
