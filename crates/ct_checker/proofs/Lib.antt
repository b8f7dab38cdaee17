pub mod Accepted
pub mod Refusals
pub mod ByGrade
pub mod Taking
pub mod Following
pub mod Entries
pub mod WithinLimits
pub mod Worked
