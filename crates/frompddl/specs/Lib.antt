-- What the program promises.
pub mod Splitting
pub mod Gathering
pub mod Together
