pub mod Pinned
pub mod Reached
pub mod Shown
pub mod Parts
pub mod Words
