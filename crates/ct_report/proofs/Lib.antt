pub mod SaidLines
pub mod LineMore
pub mod SpelledLines
pub mod ReadLines
pub mod ReportMachine
pub mod Written
