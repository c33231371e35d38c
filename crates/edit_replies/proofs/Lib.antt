pub mod NameLaws
pub mod RaiseLaws
pub mod OutputTold
