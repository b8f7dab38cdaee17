pub mod Lists
pub mod Degree
pub mod Fiber
pub mod Answer
pub mod TestHeads
pub mod Ordered
pub mod TestList
pub mod Grades
pub mod Entries
pub mod JobsList
pub mod SameJobs
pub mod Above
pub mod Points
mod Worked
mod WorkedRows
