pub mod Told
pub mod Extents
pub mod Prepared
