-- What the contracts of `taskwriter` cite.
pub mod Writing
pub mod Pieces
