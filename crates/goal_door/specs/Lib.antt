-- Back to the door of a goal. What is the door, and the way back to it? `Form.GoalDoor`. What does the service reply? `Form.Service`. How does code go
-- there? `Way`. What may a planner rely on? `TheDoor`.
pub mod Form
pub mod Way
pub mod TheDoor
