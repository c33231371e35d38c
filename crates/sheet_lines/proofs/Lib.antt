pub mod FindingLines
pub mod TotalsLine
