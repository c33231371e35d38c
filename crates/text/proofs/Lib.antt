pub mod DigitLaws
pub mod SignedLaws
pub mod FourByFour
pub mod RowLines
pub mod PutParts
pub mod OutputLaws
pub mod WithinBounds
