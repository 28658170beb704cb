-- What the record reader gives, and the words of the faults.
pub mod Kinds
pub mod Records
