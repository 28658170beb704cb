-- The words of the readers' inner functions.
pub mod Cursors
pub mod Walks
