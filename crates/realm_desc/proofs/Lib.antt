mod KnownRims
pub mod WordBytes
