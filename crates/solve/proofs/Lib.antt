-- The laws of the report, of the join and of the answer.
pub mod ReportLaws
pub mod FullLists
pub mod Hopeless
pub mod SolveLaws
pub mod JoinedLaws
pub mod Called
