-- What the contracts of `pddlwriter` cite.
pub mod Writing
pub mod Pieces
