pub mod Decimals
pub mod Held
pub mod Texts
