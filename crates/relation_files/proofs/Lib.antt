pub mod ReadingLaws
pub mod TrainNumbers
