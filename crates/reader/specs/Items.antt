-- Texts as items.
pub mod Items
pub mod Roles
pub mod RolesLaws
pub mod Words
pub mod Sorted
pub mod Tabled
pub mod TableLaws
pub mod SortedLaws
pub mod Variables
pub mod VariablesLaws
pub mod ItemsLaws
pub mod WordsLaws
