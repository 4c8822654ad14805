mod LineTexts
mod NumberTexts
pub mod WriteLaws
