pub mod ByteEdits
pub mod PageSteps
pub mod ListEdits
pub mod CentralEdits
pub mod WholeSheets
pub mod FrameEdits
pub mod EditCalls
