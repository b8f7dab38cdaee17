pub mod FormText
pub mod Files
pub mod Laws
