-- The session table, and what filling it promises.
pub mod Copies
pub mod Tables
pub mod Wrong
