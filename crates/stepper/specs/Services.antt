-- The services on bytes: first event, steps, lookup and counts, over the layers below.
pub mod Layers
pub mod Desk
pub mod Services
pub mod FirstPlan
pub mod Lookup
pub mod Counts
pub mod PortCounts
pub mod DeskLaws
pub mod ServiceLaws
pub mod OutputLaws
pub mod StepRecordLaws
pub mod FirstLaws
pub mod LookupLaws
pub mod CountsLaws
pub mod PassedLaws
pub mod PortCountsLaws
