pub mod Escaped
pub mod Pieces
pub mod Head
pub mod Own
pub mod Page
