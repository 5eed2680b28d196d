use Rattle.records.specs.Gate.OutcomeLaws.{told_gives}
use Rattle.answers.specs.Writing.OpenLaws.{answers_unopened, answers_listed}
use Rattle.answers.proofs.service.answers.Goals as goal

pub begin_answers-requires : goal.begin_answers-requires
begin_answers-requires c = told_gives _ c.answers_door.ensures c.in-Ok.is

pub returns-in-Ok : goal.returns-in-Ok
returns-in-Ok c =
    let w = told_gives _ c.answers_door.ensures c.in-Ok.is in
    answers_listed _ _ _ c.args.steps w.1 (c.begin_answers.ensures w.0 w.1)

pub returns-in-Err : goal.returns-in-Err
returns-in-Err c = answers_unopened _ _ _ c.args.steps c.answers_door.ensures c.in-Err.is
