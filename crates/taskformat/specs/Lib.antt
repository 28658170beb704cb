-- The task file: document 01, "The task file" and "Refusal numbers".
pub mod Format
pub mod Reading
pub mod Computed
pub mod Lengths
pub mod BenchFiles
