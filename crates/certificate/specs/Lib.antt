pub mod View
pub mod LineRef
pub mod Faults
pub mod Spelling
pub mod Pieces
