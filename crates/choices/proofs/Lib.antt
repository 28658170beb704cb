-- What other crates cite of `choices`.
pub mod ChoiceLaws
pub mod MaskLaws
