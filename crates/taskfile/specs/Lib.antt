-- The words of the inner functions.
pub mod Numbers
