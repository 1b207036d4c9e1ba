-- what promises cite
pub mod Pick
pub mod Part
pub mod Rising
pub mod Inserted
pub mod Refusals
pub mod Sought
-- what the build's inner functions cite: no promise of a public call does
pub mod Room
