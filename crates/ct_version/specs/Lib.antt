pub mod Editions
pub mod Answers
pub mod Desks
