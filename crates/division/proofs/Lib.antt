pub mod CopyLaws
pub mod DividingCalls
