pub mod Fibers
