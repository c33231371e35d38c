-- The outcome of reading where the answer tells no value. Assumes nothing.
use Rattle.timetable.specs.Formats.{Outcome, accepted, refused}

-- the place behind what was read, or document 01's number and its place
unfoldable pub end_of : {A : Type 0} → Outcome A → Outcome (Unit {0})
end_of (accepted a next) = accepted tt next
end_of (refused k p) = refused k p

-- The key ring of this module: `unfolding opened` opens every definition above.
unfoldable pub opened : Unit {0}
unfolding end_of
opened = tt
