-- What other crates cite of `runcheck`.
pub mod TallyLaws
pub mod OpenLaws
pub mod RuleLaws
pub mod StateLaws
pub mod Valid
pub mod Called
