-- The laws of the listing.
pub mod CheckingLaws
pub mod TellingLaws
pub mod Determined
pub mod CutLaws
pub mod Printed
pub mod Called
