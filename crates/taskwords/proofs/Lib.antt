-- The laws of a task's words, of an answer's words and of the room lent for them.
pub mod AnsweringLaws
pub mod FillingLaws
pub mod LendingLaws
pub mod PartLaws
pub mod PuttingLaws
pub mod RoundTrip
pub mod WordLaws
