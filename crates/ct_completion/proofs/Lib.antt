pub mod Permutations
pub mod Replay
pub mod Groups
pub mod Remainders
pub mod Worked
pub mod OnePass
