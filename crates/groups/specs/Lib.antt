pub mod Room
pub mod Input
pub mod Printed
pub mod Answers
-- no promise cites these
pub mod Adding
