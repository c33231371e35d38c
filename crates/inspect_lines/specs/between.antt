-- Between code and definition: the bound that the functions keep.
pub mod Bounds
