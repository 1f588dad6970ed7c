pub mod MovedAlike
pub mod AnswersAlike
pub mod PiecesAlike
pub mod Page
pub mod Tried
