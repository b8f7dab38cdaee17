pub mod AgendaFacts
pub mod Looks
pub mod CoprimeHeads
pub mod Fillings
pub mod KeptJobs
pub mod Brought
pub mod Keeping
pub mod Runs
