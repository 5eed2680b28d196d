-- What rules say: of a program, and of the clauses that it is made from.
pub mod Any
pub mod Holds
pub mod SaysExample
pub mod HoldsLaws
pub mod ClausesLaws
