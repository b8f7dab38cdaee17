pub mod Sight
pub mod Turn
pub mod Told
pub mod Stops
