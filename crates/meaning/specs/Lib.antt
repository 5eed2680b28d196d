-- What answers mean. What do rules say, and which answers are right and whole? `Says.Holds`, `Solutions.General`, `Answers.Reading`. Why is 'whole' said of
-- the variables of a call event? `OtherVariables`. What is proved of the desk stands in `proofs`: `RightAndWhole`, the last page, and `NewLocals`.
pub mod Says
pub mod Solutions
pub mod Answers
pub mod OtherVariables
