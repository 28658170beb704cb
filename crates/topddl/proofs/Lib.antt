-- The laws of the program.
pub mod RepairedLaws
pub mod NumberedLaws
