-- The laws of the program.
pub mod SplitLaws
pub mod PlaceLaws
pub mod GatherLaws
pub mod TogetherLaws
pub mod WellLaws
