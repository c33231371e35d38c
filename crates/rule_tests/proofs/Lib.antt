pub mod HeldLaws
pub mod NumbersBeside
