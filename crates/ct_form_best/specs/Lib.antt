pub mod FormBest
pub mod Laws
