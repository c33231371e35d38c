-- Between code and definition: what the functions do, said so that a law can tie it to a definition of specs/.
pub mod Marks
pub mod Kept
pub mod Extents
