pub mod Loops
pub mod Places
pub mod Items
pub mod Rules
pub mod Uses
pub mod Walks
pub mod Rows
pub mod Readings
pub mod Taken
pub mod Found
mod Worked
