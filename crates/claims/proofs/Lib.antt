-- The argument, from top to bottom.

-- DEMAND 2: what an accepted build left serves its book's grammar, and its sets are the plausible and the feasible groupings
pub mod Served
pub mod Demand2Sets
-- by tables that serve, the walk reads the ranks and the labels of a tree's chains; so settings share a number exactly where a chain joins them
pub mod Chosen
pub mod Demand2Groups
-- what the sheet check refuses the call refuses too; and a call by its own book's tables is never refused with 25
pub mod SheetRows
pub mod Never25
-- DEMAND 3: replacing a subtree by one that groups its root's settings alike changes nothing outside
pub mod Demand3
-- THE WORKED EXAMPLES: tests that compute, and what they say of a book and of its tables; then the article's Fig. 1
pub mod Tests
pub mod BookTest
pub mod Worked
pub mod Closed
pub mod Figure
pub mod FigureSets
pub mod FigureSheets
pub mod Examples
-- it is not refused, and demand 3 says something of it
pub mod NotRefused
pub mod Swaps
-- UNIQUENESS: every public call has one outcome
pub mod CallOnce
pub mod Uniqueness
