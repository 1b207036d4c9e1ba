-- What is guaranteed, in the words of the promises: demand 2 (sets, groups), demand 3, the worked examples, uniqueness. Each page states a claim, or (Build) what claims are about.
pub mod Sets
pub mod Build
pub mod Groups
pub mod Own
pub mod Replaced
pub mod Examples
pub mod NotRefused
pub mod Swaps
pub mod Once
