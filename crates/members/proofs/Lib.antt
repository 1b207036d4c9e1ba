pub mod Measuring
pub mod Ranked
pub mod Seeking
pub mod Putting
pub mod Once
