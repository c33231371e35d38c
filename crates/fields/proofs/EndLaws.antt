-- What the end of an outcome says of the outcome. Assumes nothing.
use Prim.Native.Nat.{ℕ}
use mathlib.Core.Path.{◌≡◌, sym}
use Rattle.timetable.specs.Formats.{Outcome, accepted, refused}
use Rattle.timetable.proofs.OutcomeLaws.{clash}
use Rattle.fields.specs.Outcomes.{end_of}

pub end_accepted : {A : Type 0} (o : Outcome A) (next : ℕ) → end_of o ≡ accepted tt next → (a : A) × (o ≡ accepted a next)
unfolding end_of
end_accepted (accepted a p) next e = (a, (cc))
end_accepted (refused k p) next e = clash tt next k p e

pub end_refused : {A : Type 0} (o : Outcome A) (k p : ℕ) → end_of o ≡ refused k p → o ≡ refused k p
unfolding end_of
end_refused (accepted a q) k p e = clash tt q k p (sym e)
end_refused (refused j q) k p e = cc
