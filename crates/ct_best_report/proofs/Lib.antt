pub mod Written
pub mod Paired
pub mod Asked
pub mod Shown
