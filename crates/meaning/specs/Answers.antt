-- What is said of the answers service: its bytes as a list of answers, which is right, and whole where its number is 6.
pub mod Reading
pub mod ReadingLaws
pub mod ExitLaws
