pub mod AnswerLines
pub mod EditsRun
pub mod PlacesWithin
pub mod InputRead
pub mod ListingLines
