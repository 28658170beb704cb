-- What the search's contracts cite: one fact's column, and what is asked of it, in the words of the meaning.
pub mod Columns
pub mod Runs
pub mod Searching
pub mod Gaps
pub mod Views
pub mod Rows
