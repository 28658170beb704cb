-- The text of a listing.
pub mod Ascii
pub mod Text
