pub mod BitSets
pub mod SetMembers
pub mod Carried
