pub mod SubhistoryLaws
pub mod RoomLaws
mod FrontLaws
pub mod GrammarLaws
pub mod SpellingLaws
mod EntryLaws
mod CountLaws
pub mod WriteLaws
mod PieceLaws
