-- The types of the crates below, under one module for this crate's own files.
pub use Rattle.railway.specs.declared.sorts.Train.{Train}
pub use Rattle.railway.specs.declared.relation.Trains.{Trains}
pub use Rattle.railway.specs.declared.relation.Relation.{Relation}
pub use Rattle.railway.specs.declared.relation.Relation.TheVariants.{Connection, Disconnection}
