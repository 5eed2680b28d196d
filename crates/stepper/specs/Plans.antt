-- Plans: what code sees of an event, which rule it finds there, and the plan of the event that the rule leads to or comes from.
pub mod View
pub mod WhichRule
pub mod Layouts
pub mod RulePlans
pub mod Halves
pub mod Dispatch
pub mod Made
pub mod MadeLaws
pub mod ViewLaws
pub mod LayoutLaws
pub mod HalfLaws
pub mod DispatchLaws
