-- From texts to records (SPECIFICATION 13.3 to 13.5). What does a text say? `Form.Meaning`. What do the services reply? `Form.Service`. What may be relied on?
-- `Form.GivenLaws`. How does code come there? It sorts tokens by what they do (`Items`), numbers names by a trie (`Names`), writes from the right (`Emit`),
-- and puts these together before it answers (`Survey`).
pub mod Form
pub mod Items
pub mod Names
pub mod Emit
pub mod Survey
