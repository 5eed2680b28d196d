-- The run: `Run` says what it is and `RunLaws` what it has to do with single steps; `RunService` what the service answers and `RunServiceLaws` what
-- that does with bytes; `RunLoop` what its code promises and what its loop keeps, and `RunLoopLaws` is the proof of its code.
pub mod Run
pub mod RunService
pub mod RunLoop
pub mod RunLaws
pub mod RunServiceLaws
pub mod RunLoopLaws
