-- What solving promises, and what reading the list off a session table gives.
pub mod Joins
pub mod Reports
pub mod Solving
pub mod Stuck
