-- Sets of repairs of one fact, and what is done with them.
pub mod Choices
pub mod Trying
pub mod Turns
