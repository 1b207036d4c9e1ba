pub mod Parsing
