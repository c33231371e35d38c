-- Between code and definition: what the functions answer.
pub mod Left
