-- A stored text is told by the digest of `printed`. `TakenLaws`: what is taken of a case's input; `TextLaws`: pages one after the other digest to the
-- digest of the whole.
pub mod TakenLaws
pub mod TextLaws
