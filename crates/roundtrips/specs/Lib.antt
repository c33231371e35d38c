pub mod Types
pub mod RoundTrips
pub mod Turning
pub mod Earlier
