pub mod Sink
pub mod Source
pub mod Taker
