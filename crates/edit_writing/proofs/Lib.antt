pub mod WritingLaws
pub mod RoundTrip
