pub mod LedgerMachine
pub mod Written
