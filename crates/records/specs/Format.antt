-- The format: what records say, how they are laid out as bytes, and the reader of that layout.
pub mod Syntax
pub mod Encode
pub mod Formed
pub mod Heads
pub mod Reader
pub mod Items
pub mod Never
pub mod Exact
pub mod HeadLaws
pub mod ReaderLaws
pub mod ItemLaws
pub mod WrittenLaws
