pub mod WrittenLine
pub mod PartIndices
pub mod InputHeld
pub mod InputPrinted
