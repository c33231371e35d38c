pub mod Types
pub mod Reading
pub mod Replies
pub mod Rechecks
