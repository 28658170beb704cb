-- What putting one run more to a task means.
pub mod Adding
