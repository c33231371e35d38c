pub mod Writing
pub mod RoundTrip
