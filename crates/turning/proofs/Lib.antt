pub mod TurnLaws
pub mod ReplyFixesTurn
