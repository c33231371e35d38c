pub mod TimetableLaws
pub mod CountLaws
pub mod WritingCall
