-- `Rest` says how many bytes are as they were lent. `RestLaws` is what a loop over them needs.
pub mod Rest
pub mod RestLaws
