pub mod ClosureLaws
pub mod DraftLaws
pub mod ReadingLaws
pub mod PlaceLaws
