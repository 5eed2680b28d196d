-- A step in code: what it answers, and from what the dispatch finds to that answer.
pub mod Stepped
pub mod Completed
pub mod EqualityStep
pub mod AtomStep
pub mod LastSeven
pub mod SteppedLaws
pub mod CompletedLaws
pub mod EqualityStepLaws
pub mod AtomStepLaws
pub mod LastSevenLaws
pub mod StepLaws
