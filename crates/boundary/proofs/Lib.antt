-- The laws of the boundary.
pub mod Called
pub mod ChangingLaws
