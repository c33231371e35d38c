pub mod AreaLists
