pub mod GradedJobs
pub mod Kept
pub mod Leaves
pub mod Laws
pub mod PairsByGrade
pub mod Remainders
pub mod Supports
