pub mod Turns
pub mod Due
pub mod Measured
pub mod Once
