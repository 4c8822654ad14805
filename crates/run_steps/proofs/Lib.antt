pub mod Taking
pub mod Marks
pub mod CountLaws
pub mod PlaceLaws
pub mod UntouchedLaws
pub mod CountTexts
