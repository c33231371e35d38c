-- What the answer of the reader of a relation's trains tells of the outcome. Assumes nothing.
use Rattle.std.specs.Prelude.{ℕ, ◌≡◌, List, Result, MatchResult}
use Rattle.base.specs.declared.refusal.FileError.{FileError}
use Rattle.base.specs.RefusalNumbers.{number_of}
use Rattle.timetable.specs.Formats.{Outcome, accepted, refused}
use Rattle.fields.specs.between.Answers.{padded}

-- the trains, zeros in the places up to four, and the place behind them; or the refusal's number and place
abbrev pub TellsTrains : Result (List ℕ × ℕ) FileError → Outcome (List ℕ) → Type 0
TellsTrains r o = MatchResult r
    (λ (x : List ℕ × ℕ). (ts : List ℕ) × (o ≡ accepted ts x.1) × (x.0 ≡ padded 4 0 ts))
    (λ (e : FileError). o ≡ refused (number_of e.refusal) e.place)
