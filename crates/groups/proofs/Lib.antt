pub mod Adding
pub mod Printing
pub mod Measuring
pub mod Telling
pub mod Answering
pub mod Once
pub mod Figure
