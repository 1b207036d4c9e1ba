-- The laws, by the source modules that they serve. A function's invariants and answers stand in a folder with the module's name and the function's.

-- labels: joining, dropping, tidying, the code of a slot
pub mod StateLoops
pub mod StateNumbers
pub mod StateKept
pub mod StateTidy
pub mod State
pub mod StateBase
-- seen: the states met before
pub mod StatesSeen
-- sets, turns: what a member put in leaves, attempts one after another
pub mod Memory
pub mod Rounds
-- gather: the choices of a visit, and what comes of them
pub mod Choosing
pub mod Gathering
pub mod StateWalk
pub mod Yielding
-- visit: a visit made ready and made
pub mod Opening
pub mod Planning
pub mod Visiting
-- upward and downward: the sweeps of both passes, then each pass
pub mod Holds
pub mod Sweeping
pub mod UpwardVisit
pub mod UpwardSweep
pub mod DownwardVisit
pub mod DownwardSweep
pub mod Seeding
-- shape, totals: a production read once, the numbers of entries
pub mod Shapes
pub mod EntryCounts
-- entry, fill: an entry, the choices of a production, both tables
pub mod FillEntry
pub mod FillRuns
pub mod FillChoices
pub mod StateEntry
pub mod FillState
pub mod FillUp
pub mod FillDown
-- making and build: the exits, the way through them, and that the promise pins all
pub mod Entries
pub mod Promise
pub mod Exits
pub mod Building
pub mod BuildSteps
