-- Terms: what a bet stack makes of a term, the most general unifier of two terms, the body of an atom, and the greatest variable of an event.
-- Read `Theory` first: what S(T), a unifier and its outcome are, without a byte (Substitution, Mgu, Unify, Outcome), and then `Body.Body`: what a
-- body is. `Standing` says what the code is lent: rows, frames and bets that stand in an accepted record. `Values`, `Classes`, `Unifier` and
-- `Body` each have the definitions that the contracts of src/ cite, and then the laws by which the loops meet them; `XLaws` are the laws of `X`.
pub mod Theory
pub mod Standing
pub mod Values
pub mod Classes
pub mod Unifier
pub mod Body
