pub mod Scopes
pub mod Redone
