-- The laws of a permitted list, of an applied one, of the merged list and of lists in two sittings.
pub mod PermittedLaws
pub mod ApplyLaws
pub mod MergeLaws
pub mod SittingLaws
pub mod Called
