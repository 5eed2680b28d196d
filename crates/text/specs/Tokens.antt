-- From bytes to tokens: the lexer, the spelling that it inverts, and the tokens of a text from a place on, as the code reads them.
pub mod Lexer
pub mod ClassLaws
pub mod LexerLaws
pub mod SpellingLaws
pub mod AllowedLaws
pub mod Places
pub mod PlacesLaws
pub mod Words
pub mod WordsLaws
pub mod NextLaws
