-- The laws of the writers.
pub mod PartLaws
pub mod WritingLaws
pub mod Called
