pub mod Trimmed
pub mod Widened
pub mod FormHeadline
