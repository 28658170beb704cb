-- What the run check's contracts cite.
pub mod OpenNeeds
pub mod Tallies
