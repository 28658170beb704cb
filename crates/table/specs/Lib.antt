-- The meaning, what a call gives, and tools for both, to be read against source document 001 (Definitions 1 to 3) and document 01. What a
-- list means is said without rows or searches; of the session's rows only the sizes are here.

-- the meaning
pub mod Strips
pub mod Repairs
pub mod Order
pub mod Answer
pub mod Published
pub mod Join
pub mod Tasks
-- the calls
pub mod Refusals
pub mod Outcomes
pub mod Asks
-- sizes, counting and lists; one cell set; the passes that test a task
pub mod Sizes
pub mod Counting
pub mod Lists
pub mod Setting
pub mod Passes
-- worked examples: 01's bench sheet
pub mod Deciding
pub mod Bench
pub mod Worked
