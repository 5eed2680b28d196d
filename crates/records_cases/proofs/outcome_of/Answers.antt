-- `outcome_of`: the number of what each door tells is its answer's.
use Rattle.std.proofs.Common.{◌∙◌, rules}
use Rattle.records.specs.Gate.OutcomeLaws.{told_number}
use Rattle.records_cases.proofs.outcome_of.Goals as goal

pub returns-in-113 : goal.returns-in-113
returns-in-113 c = rw c.in-113.is (told_number _ c.query_door.ensures)

pub returns-in-101 : goal.returns-in-101
returns-in-101 c = rw c.in-101.is (told_number _ c.event_door.ensures)

pub returns-in-112 : goal.returns-in-112
returns-in-112 c = rw c.in-112.is (told_number _ c.program_door.ensures)

pub returns-in_default : goal.returns-in_default
returns-in_default c = told_number _ c.clauses_door.ensures ∙ search rules
