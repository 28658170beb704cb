-- What other crates cite of `search`.
pub mod ColumnLaws
pub mod ViewLaws
pub mod BoundLaws
pub mod ConflictLaws
pub mod SearchLaws
pub mod RowLaws
pub mod LeastLaws
