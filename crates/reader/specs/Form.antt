-- What a text means, and what the services reply.
pub mod Meaning
pub mod Service
pub mod Numbers
pub mod Given
pub mod NumbersLaws
pub mod SizeLaws
pub mod ListLaws
pub mod SameClausesLaws
pub mod PassLaws
pub mod GivenLaws
pub mod Example
