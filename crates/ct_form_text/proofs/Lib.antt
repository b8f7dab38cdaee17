pub mod Filled
pub mod Cut
pub mod Room
pub mod ZeroColumns
pub mod Accepted
pub mod PlainTexts
