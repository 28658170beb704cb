-- What the program promises.
pub mod Printing
