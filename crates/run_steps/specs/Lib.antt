pub mod Replayed
pub mod Touched
pub mod Granule
pub mod Places
pub mod Counts
pub mod CountLines
