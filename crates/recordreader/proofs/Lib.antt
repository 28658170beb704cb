-- The law of the place after a record, and what a call of the record reader gives.
pub mod PlaceLaws
pub mod Called
