-- The theorems about the task file.
pub mod PositionLaws
pub mod Unique
pub mod Function
pub mod Clear
pub mod Places
pub mod Ranks
pub mod Sections
pub mod Families
pub mod Fitting
mod Grown
pub mod RunsAfter
pub mod OneMore
pub mod SetsAfter
pub mod RecordsAfter
pub mod GoodFits
pub mod Ordered
pub mod Standing
pub mod FirstRecord
pub mod AcceptedIsFile
pub mod SameTask
pub mod GoodRecord
pub mod NextRecord
pub mod FileIsAccepted
pub mod FileLength
pub mod Cut
pub mod FilesAreTasks
