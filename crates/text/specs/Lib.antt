-- Rules as text (SPECIFICATION 13). What a text says is `Grammar`, without a reader; what is proved of it is `Reading`, one page; `Printer` writes a tree, and
-- `PrinterLaws` says that it is read back; `Examples` are computed. `Tokens` and `Parsing` are about the code: the first token from a place on, and the table
-- that answers question 21 with two counts.
pub mod Grammar
pub mod Tokens
pub mod Parsing
pub mod Reading
pub mod Printer
pub mod PrinterLaws
pub mod Examples
