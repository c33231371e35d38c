-- Numbers put into a buffer as bytes, from a place on. Assumes nothing.
use Rattle.std.specs.Prelude.{ℕ, ◌+◌, ◌≤◌, ◌≡◌, List, leb, length}
use Rattle.std.specs.Prelude.{if◌then◌else◌}
use Rattle.timetable.specs.Formats.{bytes_of}
use Rattle.timetable.specs.Outputs.{put}

-- the last place from which numbers are put
abbrev pub last_place : ℕ
last_place = 1000000000

-- the place behind these numbers, and the buffer that then holds them
unfoldable pub place_behind : ℕ → List ℕ → ℕ
place_behind at ns = if leb at last_place then at + length (bytes_of ns) else at

unfoldable pub put_from : ℕ → List ℕ → List ℕ → List ℕ
put_from at ns buffer = if leb at last_place then put at (bytes_of ns) buffer else buffer

-- these numbers, at most k bytes, were put from `at` on, and r is the place behind them
abbrev pub Puts : ℕ → List ℕ → List ℕ → ℕ → List ℕ → ℕ → Type 0
Puts at ns before r after k = (r ≡ place_behind at ns) × (after ≡ put_from at ns before) × (r ≤ at + k)

-- the same of a place that is not beyond the last
abbrev pub Places : ℕ → List ℕ → List ℕ → ℕ → List ℕ → ℕ → Type 0
Places at ns before r after k = (r ≡ at + length (bytes_of ns)) × (after ≡ put at (bytes_of ns) before) × (r ≤ at + k)

-- The key ring of this module: `unfolding opened` opens every definition above.
unfoldable pub opened : Unit {0}
unfolding place_behind put_from
opened = tt
