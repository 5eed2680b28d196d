-- The canonical form: its definition, and what holds of it.
pub mod Canonical
pub mod Bench
pub mod PredicateLaws
pub mod FormedLaws
pub mod LookupLaws
