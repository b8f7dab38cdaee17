pub mod Loops
pub mod TextLines
pub mod Spelling
pub mod LineWords
pub mod Machines
pub mod Printed
pub mod LineLoop
