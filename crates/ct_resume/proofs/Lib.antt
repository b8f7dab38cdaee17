pub mod Tests
pub mod Worked
pub mod TestLists
pub mod Ledgers
pub mod Comparing
pub mod Cutting
pub mod Cuts
