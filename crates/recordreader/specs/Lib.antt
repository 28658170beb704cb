-- What the record reader's contracts cite.
pub mod Places
