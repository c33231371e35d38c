pub mod SheetLaws
pub mod FillLaws
pub mod StationLaws
pub mod PassLaws
pub mod LinkRows
pub mod FrameLaws
