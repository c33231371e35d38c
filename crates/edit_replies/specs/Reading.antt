-- What the answer of reading the edit's file tells, and that of a call that answers no number. Assumes nothing.
use Rattle.std.specs.Prelude.{◌≡◌, List, ℕ, length, Result, Ok, Err, MatchResult}
use Rattle.base.specs.RefusalNumbers.{number_of}
use Rattle.base.specs.declared.refusal.FileError.{FileError}
use Rattle.timetable.specs.Formats.{accepted, refused}
use Rattle.single_edit.specs.Reading.{read_one}
use Rattle.replies.specs.Replies.{plain}
use Rattle.replies.specs.Calls.{told_error}
use Rattle.edit_replies.specs.Types.{Edit, Reply, CallError}

-- the edit, or the refusal and its place in the second file
abbrev pub Reads : List ℕ → Result Edit CallError → Type 0
Reads file r = MatchResult r
    (λ e. read_one file ≡ accepted e (length file))
    (λ c. (f : FileError) × (c ≡ CallError.InFile 2 f) × (read_one file ≡ refused (number_of f.refusal) f.place))

abbrev pub done_reply : Result (Unit {0}) CallError → Reply
done_reply (Ok t) = plain 0
done_reply (Err e) = told_error e
