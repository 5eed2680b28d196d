-- What a record is, and what may be asked of one. Read `Format` first: the trees (Syntax), their layout (Encode) and the reader of that layout,
-- shown exact (Exact: a reader finds a tree just where the tree's bytes stand). Then `Gate`: the questions (Question), the rules of question 4
-- (RecordRules), questions 1 to 4 as one function from bytes to a tree (Gate) with what passing means (GateLaws), the door of the services (Door) and
-- what a service answers and leaves (Reply). `Ends` says where things stand in bytes: the traversal that all code over terms and goals goes by, and the
-- places of an event's parts. `Writing` has the one contract of everything that writes (Patched: Put) and the plans by which events are written.
pub mod Format
pub mod Gate
pub mod Ends
pub mod Writing
