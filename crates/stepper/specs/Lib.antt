-- The stepper's definitions and laws, one folder a subject. What are the rules, read back too, and when is a step refused? `Rules`: `Listed`,
-- `Sources`, `Refusals`; the same as a function, `Rules`, and for code, `Back`. What is a list of steps, and what holds of the events that it reaches?
-- `Walks`. What do the services answer, on bytes? `Services`, `Run`. How does code find a rule and its result? `Plans`, where `Dispatch` says what is
-- found; how does it answer? `Step`. What is proved of steps and walks? `Demands`, the last page; beside it `Training`, what training material says of
-- walks. A file of laws stands behind the file it is about.
pub mod Rules
pub mod Walks
pub mod Services
pub mod Run
pub mod Plans
pub mod Step
pub mod Demands
pub mod Training
