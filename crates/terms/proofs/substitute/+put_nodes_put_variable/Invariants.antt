use Rattle.std.proofs.Common.{◌+◌, ◌-◌, ◌*◌, length}
use Rattle.records.specs.Ends.Steps.{traverse_from}
use Rattle.terms.specs.Theory.Substitution.{Substitution}
use Rattle.terms.specs.Values.Fitted.{Fitting}
use Rattle.terms.specs.Values.Replacing.{Replaces, pairs_left}
use Rattle.terms.proofs.substitute.+put_nodes_put_variable.Given as goal

abbrev pub decreases-put_nodes : goal.decreases-put_nodes
decreases-put_nodes l = 2 * pairs_left l.by + 1

abbrev pub decreases-put_variable : goal.decreases-put_variable
decreases-put_variable l = 2 * pairs_left l.by

abbrev pub invariant-put_nodes-loop-step : goal.invariant-put_nodes-loop-step
invariant-put_nodes-loop-step l =
    (θ : Substitution) → Replaces l.by θ → Fitting θ l.s (traverse_from l.s l.initial.c) l.initial.out l.c l.out l.len

abbrev pub decreases-put_nodes-loop-step : goal.decreases-put_nodes-loop-step
decreases-put_nodes-loop-step l = length l.s - l.c.pos
