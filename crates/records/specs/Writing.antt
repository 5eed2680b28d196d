-- Writing: bytes put into an output, and records written from plans.
pub mod Patched
pub mod Plan
pub mod Emitted
pub mod PatchedLaws
pub mod PlanLaws
pub mod EmittedLaws
