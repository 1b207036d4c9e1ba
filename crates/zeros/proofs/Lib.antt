pub mod Cleared
pub mod Once
