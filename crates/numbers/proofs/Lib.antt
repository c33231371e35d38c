pub mod GroupLaws
pub mod RoundTrip
