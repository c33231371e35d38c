-- The types of the crates below, under one module for this crate's own files. `Nothing` stands in two enums: write
-- InLink.Nothing and OutLink.Nothing.
pub use Rattle.railway.specs.declared.sorts.Station.{Station}
pub use Rattle.railway.specs.declared.sorts.Train.{Train}
pub use Rattle.railway.specs.declared.visit.InLink.{InLink}
pub use Rattle.railway.specs.declared.visit.OutLink.{OutLink}
pub use Rattle.railway.specs.declared.visit.Visit.{Visit}
pub use Rattle.railway.specs.declared.relation.Trains.{Trains}
pub use Rattle.railway.specs.declared.relation.Relation.{Relation}
pub use Rattle.railway.specs.declared.relation.Relation.TheVariants.{Connection, Disconnection, Dependency}
