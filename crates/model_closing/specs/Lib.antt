pub mod Tests
pub mod Order
pub mod Nodes
pub mod Direct
pub mod Sets
pub mod Asked
pub mod Page
