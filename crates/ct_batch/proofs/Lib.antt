pub mod InOrder
pub mod Batches
