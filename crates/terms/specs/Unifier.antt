-- The unifier in bytes: from the classes of two values to the pairs of a bet.
pub mod ClassTerms
pub mod UnifierAnswer
pub mod Equality
pub mod Told
pub mod ToldLaws
pub mod ClassTermsLaws
pub mod LeastLaws
pub mod GivesLaws
pub mod UnifierAnswerLaws
pub mod UnificationLaws
pub mod EqualityLaws
