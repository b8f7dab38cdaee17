pub mod Places
pub mod InPlace
pub mod Counts
pub mod Shifts
