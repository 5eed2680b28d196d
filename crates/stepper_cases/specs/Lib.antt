-- `Stepped` says what a step in a direction answers: the reply of that direction's service. `SteppedLaws` is what its code needs.
pub mod Stepped
pub mod SteppedLaws
