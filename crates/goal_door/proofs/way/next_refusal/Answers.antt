use Rattle.std.proofs.Common.{◌∙◌, sym, ap}
use Rattle.records.specs.Gate.OutcomeLaws.{refusal_positive}
use Rattle.records.specs.Gate.Reply.{outcome_number}
use Rattle.goal_door.specs.Way.GoingLaws.{next_made, next_refused}
use Rattle.goal_door.proofs.way.next_refusal.Goals as goal

pub returns-in-Ok : goal.returns-in-Ok
returns-in-Ok c = λ w. next_made _ _ (c.source_event.ensures w).number_is (ap outcome_number c.in-Ok.is)

pub returns-in-Err : goal.returns-in-Err
returns-in-Err c = λ w.
    let same = sym (ap outcome_number c.in-Err.is) in
    same ∙ next_refused _ _ (c.source_event.ensures w).number_is (λ z. refusal_positive _ (same ∙ z))
