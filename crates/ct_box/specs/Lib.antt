pub mod Box
pub mod Brought
pub mod Completing
pub mod Laws
