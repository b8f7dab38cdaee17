pub mod Pairing
pub mod Completed
pub mod Extents
pub mod ToldReports
pub mod Beforehand
