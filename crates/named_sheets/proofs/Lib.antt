pub mod NamedSteps
