pub mod Gaps
pub mod Digits
pub mod Decimals
pub mod Standing
pub mod Splits
