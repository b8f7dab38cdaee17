pub mod Sums
pub mod Places
pub mod Divisors
pub mod Words
