-- The laws of a run put to a task, and of a task put together run by run.
pub mod AddingLaws
pub mod Called
pub mod Fronts
pub mod Together
