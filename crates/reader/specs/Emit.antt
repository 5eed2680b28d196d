-- Writing from the right.
pub mod Cells
pub mod Emits
pub mod EmitLaws
pub mod PushLaws
pub mod StackLaws
pub mod TurnsLaws
pub mod CellLaws
pub mod WritingLaws
