use native.Mathlib.Omega.{arith}
use Rattle.answers.specs.Writing.BegunLaws.{accepted_query}
use Rattle.answers.specs.Writing.MarkedLaws.{query_on, listed_variables, listed_top, listed_few}
use Rattle.answers.proofs.variables.list_variables.Goals as goal

pub mark_met-requires : goal.mark_met-requires
mark_met-requires c = let (q, e) = accepted_query _ c.requires.accepted in
    rw c.goal-goal.ensures (query_on _ c.type_inv.query q e)

pub variables_top-found-requires : goal.variables_top-found-requires
variables_top-found-requires c =
    let (q, e) = accepted_query _ c.requires.accepted in
    rw c.goal-goal.ensures (query_on _ c.type_inv.query q e)

pub list_marked-requires : goal.list_marked-requires
list_marked-requires c = let (q, e) = accepted_query _ c.requires.accepted in
    let marks = rw c.goal-goal.ensures at c.mark_met.ensures in
    let top = rw c.goal-goal.ensures at c.variables_top-found.ensures.top in record { top_bound = listed_top _ c.type_inv.query q e top; top_in_bounds = rw (listed_variables _ c.type_inv.query q e marks top) (omega (arith, listed_few _ c.type_inv.query q e, c.requires.query_len_bound)) }

pub returns : goal.returns
returns c = λ q e.
    let marks = rw c.goal-goal.ensures at c.mark_met.ensures in
    let top = rw c.goal-goal.ensures at c.variables_top-found.ensures.top in
    rw (listed_variables _ c.type_inv.query q e marks top) at c.list_marked.ensures
