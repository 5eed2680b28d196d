use native.Mathlib.Omega.{arith}
use Rattle.terms.specs.Values.Answered.{variable_at}
use Rattle.answers.proofs.values.listed_variable.Goals as goal

pub linked_value-requires : goal.linked_value-requires
linked_value-requires c = record { pairs_of = c.requires.pairs_of; by_index = (3, variable_at c.args.v (omega arith) c.to_be_bytes.ensures); out_len = c.requires.value_len }

pub returns : goal.returns
returns c = λ bets l. c.linked_value.ensures bets l 3 (variable_at c.args.v (omega arith) c.to_be_bytes.ensures)
