-- The answer of turning, as document 01 gives answers. Assumes nothing.
use Rattle.std.specs.Prelude.{ℕ, Result, Ok, Err}
use Rattle.base.specs.RefusalNumbers.{number_of}
use Rattle.base.specs.declared.refusal.OutputError.{OutputError}
use Rattle.timetable.specs.Outputs.{Reply, written, refused_at, needed}
use Rattle.turning.specs.declared.TurnError.{TurnError}

-- what writing the network answers, told of the file
abbrev pub turn_error : OutputError → TurnError
turn_error (OutputError.Refused r) = TurnError.InFile (record { refusal = r; place = 0 })
turn_error (OutputError.TooShort k) = TurnError.TooShort k

-- "When an answer is an enum, a definition gives this paper's number and values for each case of that enum."
unfoldable pub reply : Result ℕ TurnError → Reply
reply (Ok k) = written k
reply (Err (TurnError.InFile e)) = refused_at (number_of e.refusal) e.place
reply (Err (TurnError.TooShort k)) = needed k

-- The key ring of this module: `unfolding opened` opens every definition above.
unfoldable pub opened : Unit {0}
unfolding reply
opened = tt
