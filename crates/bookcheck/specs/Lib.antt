-- what the check promises
pub mod Refusals
pub mod Answer
-- what calls on an accepted book ask of each other, and the check's own functions: no promise of a public call cites these
pub mod Accepted
pub mod Search
