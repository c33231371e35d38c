pub mod CallLaws
pub mod InspectLaws
pub mod PlaceLaws
