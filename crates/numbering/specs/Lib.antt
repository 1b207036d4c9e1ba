-- what the sheet call promises
pub mod Walk
pub mod Promise
pub mod Answer
-- where the demands read what it told
pub mod Places
-- what its own functions promise each other: no promise of a public call cites these
pub mod Visits
pub mod Unrefused
pub mod Nodes
pub mod Parts
pub mod Giving
pub mod Admitting
