pub mod BestReport
pub mod BestText
pub mod Found
pub mod Laws
