-- Between code and definition: what the functions do, said so that a law can tie it to a definition of specs/.
pub mod Taken
pub mod Layouts
