pub mod Forms
pub mod EqualityForms
pub mod Kept
pub mod Made
pub mod Laws
