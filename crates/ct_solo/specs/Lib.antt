pub mod Agendas
pub mod Leaving
pub mod Seen
pub mod Insides
pub mod HeadGrades
