-- How code finds and writes the answers.
pub mod Marked
pub mod Values
pub mod Used
pub mod Solved
pub mod Begun
pub mod Listing
pub mod MarkedLaws
pub mod ValuesLaws
pub mod UsedLaws
pub mod BegunLaws
pub mod SolvedLaws
pub mod ListingLaws
pub mod OpenLaws
