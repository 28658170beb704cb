-- The promises: open Demands first.
pub mod CertificateLaws
pub mod BenchSheet
pub mod Unique
pub mod UniqueBoundary
pub mod Results
pub mod BadInputLaws
pub mod FileLaws
pub mod SolvedLaws
pub mod InterlockLaws
pub mod Demands
pub mod TextsDemand
pub mod SittingsDemand
pub mod BoundaryDemand
pub mod TextsBoundary
pub mod ReplayLaws
