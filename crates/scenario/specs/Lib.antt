pub mod SeenPrograms
pub mod TomlDocument
pub mod ScenarioText
pub mod SeenTexts
pub mod Sizes
pub mod Written
pub mod CallLines
