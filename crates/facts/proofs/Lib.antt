-- What other crates cite of `facts`: the laws of sets held as masks.
pub mod Digits
pub mod Laws
pub mod Counting
pub mod Words
