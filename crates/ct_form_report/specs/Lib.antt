pub mod FormCases
pub mod FormHeadline
pub mod Laws
