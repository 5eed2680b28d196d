-- What stands in an accepted record: the rows and frames that the code of this crate is lent.
pub mod Rows
pub mod Frames
pub mod BetRow
pub mod Accepted
pub mod RowsLaws
pub mod BetRowLaws
pub mod AcceptedLaws
