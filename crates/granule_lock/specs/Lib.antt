pub mod HeldCells
pub mod Locked
