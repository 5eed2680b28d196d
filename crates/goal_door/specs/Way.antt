-- How code goes back to the door.
pub mod Going
pub mod DoorBytesLaws
pub mod GoingLaws
pub mod OpenLaws
