pub mod Cases
pub mod Scripts
pub mod Legal
pub mod Laws
pub mod Sessions
pub mod Headline
