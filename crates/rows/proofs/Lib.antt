-- The laws of copies, and of the rows of a session table.
pub mod CopyLaws
pub mod TableLaws
pub mod LeftLaws
pub mod WrongLaws
