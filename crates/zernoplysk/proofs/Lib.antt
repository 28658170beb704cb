-- The laws of the program.
pub mod PrintLaws
