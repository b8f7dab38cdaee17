pub mod Together
pub mod Drawn
pub mod Inputs
pub mod MadeInputs
pub mod LegalReports
