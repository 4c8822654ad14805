pub mod Numbered
pub mod Stages
pub mod Records
pub mod Pages
pub mod Book
pub mod View
