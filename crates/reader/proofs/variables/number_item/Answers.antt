use Rattle.reader.proofs.variables.number_item.Goals.{then-n-lt-MOST_VARIABLES, else-n-lt-MOST_VARIABLES}
use mathlib.Core.Path.{sym, ◌∙◌}
use native.Mathlib.Omega.{arith}
use Rattle.reader.specs.Items.VariablesLaws.{first_taken, numbered_known, numbered_new, numbered_over, numbered_end, numbered_other}
use Rattle.reader.proofs.variables.number_item.Goals as goal

pub variable_number-x-requires-clause-ranges_inside : goal.variable_number-x-requires-clause-ranges_inside
variable_number-x-requires-clause-ranges_inside c = rw (first_taken c.args.ranges.now c.args.n (omega (arith, c.requires.n_bound.1))) at c.requires.ranges_inside

pub returns-then-x-n : goal.returns-then-x-n
returns-then-x-n c =
    let fits = first_taken c.args.ranges.now c.args.n (omega (arith, c.requires.n_bound.1)) in
    numbered_known c.requires.ranges_inside c.variable_number-x.result (sym c.is_variable.ensures ∙ c.if-is_variable.true) (rw fits c.variable_number-x.ensures) (omega arith)

pub returns-then-is_variable : goal.returns-then-is_variable
returns-then-is_variable c =
    let v = sym c.is_variable.ensures ∙ c.if-is_variable.true in
    let fits = first_taken c.args.ranges.now c.args.n (omega (arith, c.requires.n_bound.1)) in
    elim c.if-n-lt-MOST_VARIABLES.branch [
      | then-n-lt-MOST_VARIABLES w ↦ rw w.ranges-is (numbered_new c.requires.ranges_inside c.variable_number-x.result v (rw fits c.variable_number-x.ensures) (omega arith) (omega (arith, c.requires.n_bound.1, w.if-n-lt-MOST_VARIABLES.true)) c.requires.inside)
      | else-n-lt-MOST_VARIABLES w ↦ rw w.ranges-is (numbered_over c.requires.ranges_inside c.variable_number-x.result v (rw fits c.variable_number-x.ensures) (omega arith) (omega (arith, w.if-n-lt-MOST_VARIABLES.false)))
    ]

pub returns-then-is_end : goal.returns-then-is_end
returns-then-is_end c = numbered_end c.requires.ranges_inside (sym c.is_variable.ensures ∙ c.if-is_variable.false) (sym c.is_end.ensures ∙ c.if-is_end.true)

pub returns : goal.returns
returns c = numbered_other c.requires.ranges_inside (sym c.is_variable.ensures ∙ c.if-is_variable.false) (sym c.is_end.ensures ∙ c.if-is_end.false)
