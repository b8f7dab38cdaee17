pub mod Inputs
pub mod Promise
pub mod Beside
