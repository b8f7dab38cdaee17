pub mod WorkedFor
pub mod ReachedGrades
pub mod DealtParts
pub mod CollectedParts
pub mod OpenedCases
pub mod ServedPhases
pub mod PartFacts
pub mod Opening
