-- what the check promises
pub mod Reading
pub mod Refusals
pub mod Answer
-- what its own functions promise each other: no promise of a public call cites these
pub mod Trees
pub mod Stops
pub mod Walk
