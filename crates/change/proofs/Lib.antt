-- What other crates cite of `change`: the laws of one cell by its kind, of an edit and of the numbers of a list.
pub mod KindLaws
pub mod SameLaws
pub mod EditLaws
pub mod MemberLaws
