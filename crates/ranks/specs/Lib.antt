-- what the reads promise, and the measure of the tables
pub mod Entries
pub mod Reads
pub mod Room
-- what callers' inner functions cite: no promise of a public call does
pub mod Padded
