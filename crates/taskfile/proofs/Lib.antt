-- The laws of reading a task file, and what a call gives.
pub mod ReaderLaws
pub mod Called
