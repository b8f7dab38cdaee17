pub mod BoxReport
pub mod Boxes
