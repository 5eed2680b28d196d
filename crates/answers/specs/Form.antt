-- What the answers of a query are, and the laws of that.
pub mod Answer
pub mod Answers
pub mod Service
pub mod Continued
pub mod Told
pub mod NextExit
pub mod AnswerLaws
pub mod AnswersLaws
pub mod ToldLaws
pub mod FrontLaws
pub mod EndLaws
pub mod ContinuedLaws
pub mod ServiceLaws
pub mod AnswersExample
