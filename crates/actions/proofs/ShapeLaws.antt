-- What the parts of an edit's shape say. By the two sorts of meaning. Assumes nothing.
use Prim.Native.Nat.{ℕ}
use mathlib.Core.Path.{◌≡◌, refl}
use Rattle.timetable.specs.Machine.{Meaning, local, throughout, added_by}
use Rattle.actions.specs.Types.{Station, Train, Local, Throughout}
use Rattle.actions.specs.between.Shapes.{shape_of, touches, shape_touches}

-- the stations of a shape are those that the edit names
pub touches_by : (s : Station) (μ : Meaning) → shape_touches (shape_of μ) s ≡ touches μ s
unfolding shape_of touches shape_touches
touches_by s (local a) = refl
touches_by s (throughout t) = refl

-- the visits that an edit adds are those that the tally counts
pub added_at : (μ : Meaning) (home away : Station) (adds removes : ℕ) → shape_of μ ≡ Local home away adds removes → added_by μ ≡ adds
unfolding shape_of added_by
added_at (local a) home away adds removes q = cc
added_at (throughout t) home away adds removes q = cc

pub added_throughout : (μ : Meaning) (t : Train) → shape_of μ ≡ Throughout t → added_by μ ≡ 0
unfolding shape_of added_by
added_throughout (local a) t q = cc
added_throughout (throughout u) t q = refl
