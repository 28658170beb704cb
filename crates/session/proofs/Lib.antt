-- What other crates cite of `session`: when a table is in form, the order of refusals, one result for each call, and demand 3.
pub mod FormLaws
pub mod CallLaws
pub mod StoryLaws
pub mod Called
