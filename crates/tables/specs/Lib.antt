-- what the promise of the build says, and what it cites
pub mod Sets
pub mod Entries
pub mod Promise
pub mod Answer
-- no promise cites these: they serve the contracts of the inner functions
pub mod Memory
pub mod State
pub mod Seen
pub mod Visit
pub mod Sweep
pub mod Upward
pub mod Downward
pub mod Shape
pub mod Making
pub mod Fill
