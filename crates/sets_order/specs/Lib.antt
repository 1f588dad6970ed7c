pub mod Down
pub mod System
pub mod Depends
pub mod Inter
pub mod Calm
pub mod Enough
pub mod Order
