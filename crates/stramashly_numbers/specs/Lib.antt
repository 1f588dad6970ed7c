pub mod Main
pub mod Reading
pub mod Numbers
pub mod Given
pub mod RowNumbers
pub mod Rows
