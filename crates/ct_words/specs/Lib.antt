pub mod Table
pub mod Role
pub mod Parts
pub mod Said
pub mod Items
pub mod Command
pub mod Reading
