-- What the contracts of `taskwords` cite.
pub mod Words
pub mod Answers
