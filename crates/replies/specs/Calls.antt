-- What a call answers, by how it ended: the numbers of its error, or what it counts. Assumes nothing.
use Rattle.std.specs.Prelude.{ℕ, Result, Ok, Err}
use Rattle.base.specs.declared.refusal.OutputError.{OutputError}
use Rattle.base.specs.RefusalNumbers.{number_of}
use Rattle.replies.specs.Types.{Reply, CallError}
use Rattle.replies.specs.Replies.{sized, plain, placed, of_answer}

abbrev pub output_error : OutputError → CallError
output_error (OutputError.Refused r) = CallError.Refused r
output_error (OutputError.TooShort k) = CallError.TooShort k

abbrev pub told_error : CallError → Reply
told_error (CallError.Refused r) = plain (number_of r)
told_error (CallError.InFile file e) = placed file (number_of e.refusal) e.place
told_error (CallError.TooShort k) = sized 13 k

-- the visits that an edit removed
abbrev pub removed_reply : Result ℕ CallError → Reply
removed_reply (Ok k) = of_answer (record { refusal = 0; removed = k })
removed_reply (Err e) = told_error e

-- how many bytes or numbers were read or written
abbrev pub length_reply : Result ℕ CallError → Reply
length_reply (Ok k) = sized 0 k
length_reply (Err e) = told_error e
