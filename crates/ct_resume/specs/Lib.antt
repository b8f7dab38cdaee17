pub mod Reduced
pub mod Laws
pub mod Resuming
