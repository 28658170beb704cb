-- What the promises are stated over, beside the contracts of the calls.
pub mod Certificates
pub mod Determined
pub mod Replays
pub mod Sheet
pub mod TwoSittings
