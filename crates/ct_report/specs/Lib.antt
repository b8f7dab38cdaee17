pub mod ReportText
pub mod Limits
pub mod Grammar
pub mod Laws
