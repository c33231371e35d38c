pub mod RowRanges
pub mod RowTexts
pub mod JourneyLines
