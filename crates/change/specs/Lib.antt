-- What editing a cell means, and one cell by its kind.
pub mod Editing
pub mod Kinds
