-- The laws of reading.
mod ReadLaws
