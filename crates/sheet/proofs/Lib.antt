pub mod Reading
pub mod Refusals
pub mod Once
pub mod Trees
pub mod Accepted
pub mod Stops
pub mod Walk
pub mod Answers
