pub mod ByteLaws
pub mod RecordLaws
