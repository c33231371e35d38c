-- The ranges of a row behind another, and a line of its numbers as the network keeps them. Assumes nothing.
use Rattle.std.specs.Prelude.{ℕ, ◌+◌, ◌%◌, List, [], ◌∷◌, map}
use Rattle.network.specs.declared.LineRow.{LineRow}
use Rattle.timetable.specs.Formats.{Range, ◌to◌}
use Rattle.timetable.specs.declared.NetworkForm.{NetworkForm}
use Rattle.timetable.specs.NetworkFile.{line_of}

-- the first number stands above that of the row before
unfoldable pub above : ℕ → List Range → List Range
above before [] = []
above before (r ∷ rs) = (before + 1) to r.hi ∷ rs

-- each number as a byte
unfoldable pub as_bytes : List ℕ → List ℕ
as_bytes ns = map (λ n. n % 256) ns

-- a line of seven numbers, each as a byte
unfoldable pub line_with : List ℕ → LineRow
line_with ns = line_of NetworkForm.TwoTimes (as_bytes ns)

-- The key ring of this module: `unfolding opened` opens every definition above.
unfoldable pub opened : Unit {0}
unfolding above as_bytes line_with
opened = tt
