-- The laws of a record and of its faults, and what a call gives.
pub mod RecordLaws
pub mod FaultLaws
pub mod Called
