pub mod Pieces
pub mod PiecesLaws
pub mod Entry
pub mod Answers
pub mod Promise
