-- Sorting: the entries of a record's clauses, picked one after the other, are those of each predicate in turn.
pub mod Entries
pub mod Picking
pub mod Groups
pub mod Remaining
pub mod EntryLaws
pub mod PickingLaws
pub mod GroupLaws
pub mod RemainingLaws
