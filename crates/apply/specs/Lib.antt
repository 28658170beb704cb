-- What applying a list means, and lists in two sittings.
pub mod Applying
pub mod Sittings
