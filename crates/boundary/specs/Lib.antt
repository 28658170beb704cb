-- What the contracts of `boundary` cite.
pub mod BoundaryCalls
