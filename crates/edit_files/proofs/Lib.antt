pub mod EditLaws
pub mod EditsParts
pub mod ShiftLaws
