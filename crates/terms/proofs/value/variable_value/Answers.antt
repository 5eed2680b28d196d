-- `variable_value` applies the bets to the three bytes of the variable.
use native.Mathlib.Omega.{arith}
use Rattle.terms.specs.Values.Answered.{variable_at}
use Rattle.terms.proofs.value.variable_value.Goals as goal

pub apply_bets-requires : goal.apply_bets-requires
apply_bets-requires c = record { ruled_bets = c.requires.ruled_bets; by_index = (3, variable_at c.args.v (omega arith) c.to_be_bytes.ensures); buffers = c.requires.buffers }

pub returns : goal.returns
returns c = λ p. c.apply_bets.ensures p 3 (variable_at c.args.v (omega arith) c.to_be_bytes.ensures)
