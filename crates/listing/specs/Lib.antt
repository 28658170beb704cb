-- What a listing promises.
pub mod Listing
