-- The laws of the writer.
pub mod PieceLaws
pub mod SectionLength
pub mod WritingLaws
pub mod Called
