-- The table and its runs as PDDL: 02, request 4; docs/PDDL.md.
pub mod Texts
pub mod Readings
pub mod Trees
pub mod Lengths
