-- The laws of layouts.
pub mod AlikeLaws
pub mod Exact
pub mod Places
