-- What the exports add to the layers' definitions: `Directions`, a run's direction as a number. `AnswerLaws`: that the layers' answers fit the numbers in which they are handed on.
pub mod Directions
pub mod AnswerLaws
