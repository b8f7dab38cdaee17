pub mod Refusing
pub mod Values
pub mod Shapes
pub mod InstanceShape
pub mod SessionShape
pub mod Files
pub mod Accepted
