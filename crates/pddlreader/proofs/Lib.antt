-- The laws of reading the texts, and what a call gives.
mod ReachLaws
mod CursorLaws
mod WalkLaws
mod ActionLaws
mod TextLaws
pub mod Called
