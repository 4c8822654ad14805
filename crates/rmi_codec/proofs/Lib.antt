mod DigitTable
pub mod FaultLaws
mod HeadLaws
mod HexLanes
mod HexNumbers
pub mod NumberLaws
pub mod PartLaws
pub mod PrefixLaws
pub mod LineTexts
mod FrontLaws
mod FunctionLaws
pub mod LineLengths
pub mod Pieces
