-- The edit session: document 01, "The session table"; demand 3.
pub mod Sessions
pub mod Calls
pub mod EditNumbers
