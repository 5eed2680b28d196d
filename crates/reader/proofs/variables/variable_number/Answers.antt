use mathlib.Core.Path.{sym}
use Rattle.reader.specs.Items.VariablesLaws.{length_words}
use Rattle.reader.proofs.variables.variable_number.Goals as goal

pub returns-then-is_lone : goal.returns-then-is_lone
returns-then-is_lone c = rw (← c.is_lone.ensures, c.if-is_lone.true) (sym (length_words c.args.s.now c.args.met.now))

pub returns : goal.returns
returns c = rw (← c.is_lone.ensures, c.if-is_lone.false) c.place_among.ensures
