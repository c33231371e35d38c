pub mod Tests
pub mod Lengths
pub mod Counts
pub mod Sorted
pub mod Orders
