-- The laws of the text: of its numbers, its lines and its length.
pub mod EachLaws
pub mod DigitLaws
pub mod LineLaws
pub mod TextLength
pub mod TextLaws
pub mod Decimals
