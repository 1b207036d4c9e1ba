pub mod Format
pub mod Reading
