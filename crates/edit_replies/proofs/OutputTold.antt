-- What a call that fills a lent buffer answers, told at the edge as its reply. By its cases. Assumes nothing.
use Prim.Native.Nat.{ℕ}
use mathlib.Core.Path.{◌≡◌, refl}
use Rattle.std.specs.Prelude.{Ok, Err}
use Rattle.base.specs.declared.refusal.OutputError.{OutputError}
use Rattle.timetable.specs.Outputs.{reply_of}
use Rattle.replies.specs.Replies.{sized, file_of, or_nought, of_reply_in, of_reply}
use Rattle.replies.specs.Calls.{output_error, told_error}

pub error_told : (o : OutputError) → told_error (output_error o) ≡ of_reply (reply_of (Err o))
unfolding reply_of file_of or_nought of_reply_in of_reply
error_told (OutputError.Refused r) = refl
error_told (OutputError.TooShort k) = refl

pub length_told : (k : ℕ) → sized 0 k ≡ of_reply (reply_of (Ok k))
unfolding reply_of file_of or_nought of_reply_in of_reply
length_told k = refl
