-- What the program promises.
pub mod Repairing
pub mod Numbered
