-- The laws of the texts: how long they are, that the trees have them and no others, and what walking along the trees reads.
pub mod Sample
pub mod TextLength
pub mod Pieces
pub mod Chains
pub mod SetTexts
pub mod CountTexts
pub mod ActionTexts
pub mod TableTexts
pub mod DomainTexts
pub mod ProblemTexts
pub mod ClearTrees
pub mod Walked
pub mod ReadBack
