pub mod OneReport
pub mod Floors
pub mod Worked
pub mod Sessions
pub mod Scripts
pub mod Headline
