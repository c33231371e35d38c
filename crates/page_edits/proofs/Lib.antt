pub mod PairSteps
pub mod RowSteps
