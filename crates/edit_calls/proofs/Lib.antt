pub mod CallTests
pub mod KnownGood
pub mod TakenLaws
pub mod RunLaws
pub mod ReplyFixesRun
pub mod PairAnswers
