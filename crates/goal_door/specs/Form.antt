-- What the door of a goal is, and the laws of that.
pub mod GoalDoor
pub mod NextCall
pub mod Service
pub mod Told
pub mod GoalDoorLaws
pub mod NearestLaws
pub mod ReachedLaws
pub mod NeverSixLaws
pub mod ServiceLaws
pub mod DoorExample
