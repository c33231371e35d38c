pub mod NetworkLaws
pub mod RowsInUse
pub mod AreaLaws
pub mod RowsByNumber
