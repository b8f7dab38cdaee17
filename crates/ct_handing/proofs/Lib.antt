pub mod LevelsSoFar
pub mod Short
pub mod Points
