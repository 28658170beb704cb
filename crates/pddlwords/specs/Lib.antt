-- What the contracts of `pddlwords` cite.
pub mod Spelling
