-- What the case programs share has contracts where more is said than that it is safe: `Digest`, the numbers that a text is told by; `Hex`, the
-- digits of bytes. `DigestLaws` and `HexLaws` are their laws.
pub mod Cases
pub mod Digest
pub mod Hex
pub mod DigestLaws
pub mod HexLaws
