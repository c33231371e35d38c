pub mod Choice
pub mod Lists
pub mod Runs
pub mod RefusalNumbers
