-- The types of the crates below, under one module for this crate's own files.
pub use Rattle.railway.specs.declared.sorts.Area.{Area}
pub use Rattle.network.specs.declared.Network.{Network}
