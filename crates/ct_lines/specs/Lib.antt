pub mod Texts
pub mod Reading
pub mod Wording
pub mod FaultLine
pub mod Stops
