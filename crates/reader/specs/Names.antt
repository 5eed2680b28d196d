-- Names in tables: a name's place as the table of numbers has it (Seek), the trie in which code looks a name up (Trie) and which grows (NewNode), what it is for its
-- tables to hold a list of names (Holds), and the pass that numbers the names of a text and lists them (Naming).
pub mod Seek
pub mod Trie
pub mod NewNode
pub mod Holds
pub mod Naming
pub mod PlaceLaws
pub mod SeekLaws
pub mod TrieLaws
pub mod NewNodeLaws
pub mod NodeLaws
pub mod HoldsLaws
pub mod NamingLaws
pub mod Examples
