pub mod LateLaws
pub mod FourNumbers
pub mod JourneyLaws
pub mod ProjectionCall
