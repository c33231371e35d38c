pub mod ShapeLaws
pub mod EarlyLaws
pub mod OrderLaws
