pub mod Appended
pub mod Consumed
pub mod Counted
pub mod FilesTold
pub mod Retried
