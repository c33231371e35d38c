-- Between code and definition: what the functions put, said so that a law can tie it to a definition of
-- listings/specs/, and which numbers are small.
pub mod Journeys
