pub mod View
pub mod Updates
