pub mod GrammarLaws
mod SlotLaws
mod SpellingLaws
mod TableLaws
mod PieceLaws
pub mod NameLaws
pub mod RoleLaws
pub mod WordLaws
mod PageLaws
pub mod Common
mod CountLaws
mod RunLaws
mod StepLaws
mod NamingLaws
mod LineLaws
mod TextLaws
mod CutLaws
mod RoomLaws
