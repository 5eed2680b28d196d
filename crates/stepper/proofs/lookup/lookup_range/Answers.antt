-- `lookup_range` asks the door, and then for what the goal names.
use Rattle.stepper.specs.Services.PassedLaws.{door_passes}
use Rattle.stepper.specs.Services.LookupLaws.{no_record, both_accepted}
use Rattle.stepper.proofs.lookup.lookup_range.Goals as goal

pub returns-in-Err : goal.returns-in-Err
returns-in-Err c = no_record _ _ c.door.ensures c.in-Err.is c.nowhere.ensures

pub named_range-requires : goal.named_range-requires
named_range-requires c = let w = door_passes _ _ c.door.ensures c.in-Ok.is in
    record { accepted = rw w.program_reads tt; accepted_2 = rw w.reads tt }

pub returns-in-Ok : goal.returns-in-Ok
returns-in-Ok c = both_accepted _ _ (door_passes _ _ c.door.ensures c.in-Ok.is) c.named_range.ensures
