mod HeldLemmas
mod SpellingLemmas
pub mod GrammarLemmas
pub mod PieceLemmas
