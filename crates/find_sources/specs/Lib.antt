pub mod Sources
pub mod Choice
