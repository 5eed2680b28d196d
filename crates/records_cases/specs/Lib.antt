-- `Case` says which number a stored case has: that of the door for its kind of record.
pub mod Case
