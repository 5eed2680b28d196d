-- What exits and fails of a walk have to do with what the rules say, on events and for every machine that is faithful to a program.
pub mod Faithful
pub mod General
pub mod FaithfulLaws
pub mod ExtendedLaws
pub mod RightLaws
pub mod InwardLaws
