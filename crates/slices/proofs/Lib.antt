pub mod Carrying
pub mod Once
pub mod Relabelling
