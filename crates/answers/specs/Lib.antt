-- Every answer of a query. What is an answer? `Form.Answer`. Which answers has a query, and how many are written? `Form.Answers`. What does the service
-- reply? `Form.Service`. What may a planner rely on? `EveryAnswer`.
pub mod Form
pub mod Writing
pub mod EveryAnswer
