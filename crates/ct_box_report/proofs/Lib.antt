pub mod Tops
pub mod Lines
