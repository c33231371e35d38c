-- The outcome that an answer tells, and the numbers of a row that are in use. Assumes nothing.
use Rattle.std.specs.Prelude.{ℕ, ◌-◌, List, ◌++◌, length, replicate, take, Result, Ok, Err, MatchResult, ◌≡◌, ◌≤◌, ◌<◌}
use Rattle.base.specs.declared.refusal.Refusal.TheVariants.{EndsOrGoesOn}
use Rattle.base.specs.declared.refusal.FileError.{FileError}
use Rattle.base.specs.RefusalNumbers.{number_of}
use Rattle.timetable.specs.Formats.{Outcome, accepted, refused, Range, ◌to◌}
use Rattle.fields.specs.declared.field.Span.{Span}
use Rattle.fields.specs.declared.put.Numbers.{Numbers}

-- document 01's number and values for each case: the value and the place behind it, or the refusal's number and place
abbrev pub outcome : {A : Type 0} → Result (A × ℕ) FileError → Outcome A
outcome (Ok (a, next)) = accepted a next
outcome (Err e) = refused (number_of e.refusal) e.place

-- the file ends at a place, or goes on there
abbrev pub EndsAt : List ℕ → ℕ → Result (Unit {0}) FileError → Type 0
EndsAt file place r = MatchResult r (λ t. length file ≤ place) (λ e. (place < length file) × (e ≡ record { refusal = EndsOrGoesOn; place = place }))

abbrev pub range_of : Span → Range
range_of s = s.lo to s.hi

-- the elements, and then the default in the places up to k
unfoldable pub padded : {A : Type 0} → ℕ → A → List A → List A
padded k d xs = xs ++ replicate (k - length xs) d

-- what a row with room for k numbers holds where these are read
unfoldable pub filled : ℕ → Outcome (List ℕ) → Outcome (List ℕ)
filled k (accepted ns next) = accepted (padded k 0 ns) next
filled k (refused n p) = refused n p

-- the numbers of a row that are there
unfoldable pub in_use : Numbers → List ℕ
in_use f = take f.count f.values

-- the row that holds these numbers, zeros behind them
unfoldable pub row_of : List ℕ → Numbers
row_of ns = record { count = length ns; values = padded 13 0 ns }

-- The key ring of this module: `unfolding opened` opens every definition above.
unfoldable pub opened : Unit {0}
unfolding padded filled in_use row_of
opened = tt
