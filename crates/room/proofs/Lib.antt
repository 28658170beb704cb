-- The laws of placing.
pub mod PlacingLaws
pub mod Gathering
