-- The rules: listed, as a function, read back, and when a step is refused. All on events, for any machine.
pub mod Machine
pub mod Rules
pub mod Listed
pub mod Sources
pub mod Refusals
pub mod Back
pub mod Formed
pub mod AnswerLaws
pub mod ListedLaws
pub mod RefusalLaws
pub mod SourceLaws
pub mod BackRefusalLaws
pub mod BackLaws
pub mod AdmittedLaws
pub mod FormedLaws
