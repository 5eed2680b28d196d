-- What no proof covers is what the C library reads and writes. `Reading` and `Writing` say what the walk program makes of it: the contracts of its
-- two functions that read and of the one that prints. `ReadLaws` shows that a reading which loses no byte takes what `printed` takes.
pub mod Reading
pub mod Writing
pub mod ReadingLaws
pub mod ReadLaws
pub mod WritingLaws
