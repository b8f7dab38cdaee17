pub mod Within
pub mod Told
pub mod Runs
pub mod Endings
pub mod Followed
pub mod Readings
pub mod TooLong
pub mod CutFiles
pub mod LedgerFiles
pub mod FullGrades
pub mod Summaries
pub mod ReportLimits
pub mod ToldForms
pub mod Resumptions
pub mod Listed
mod Worked
