pub mod Progress
pub mod Offers
pub mod Replay
pub mod Judged
pub mod Failure
pub mod Session
pub mod Judgement
