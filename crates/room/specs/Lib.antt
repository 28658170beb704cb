-- What the contracts of `room` cite.
pub mod Giving
pub mod Placing
