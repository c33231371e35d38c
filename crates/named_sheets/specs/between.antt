-- Between code and definition: what the functions test, said so that a law of machine can tie it to a definition.
pub mod Named
