-- The cases of terms ask below the services: the unifier of an equality (`Equalities`), the body of an atom (`Bodies`), each with the record's door
-- before it. `EqualityLaws` and `BodyLaws` tie the definitions to the contracts of terms.
pub mod Equalities
pub mod Bodies
pub mod EqualityLaws
pub mod BodyLaws
