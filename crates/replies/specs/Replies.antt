-- What every call answers, and how a call goes on where the files that it is lent are read. Assumes nothing.
use Rattle.std.specs.Prelude.{ℕ, ◌+◌, Bool, Option, Some, None}
use Rattle.base.specs.Choice.{◌if◌else◌}
use Rattle.std.specs.Prelude.{if◌then◌else◌}
use Rattle.timetable.specs.Outputs as outputs
use Rattle.timetable.specs.Formats.{Outcome, accepted, refused}
use Rattle.replies.specs.Types.{Network, Answer, Reply}

-- a refusal or 0, with a length; a refusal of a file, 1 the network and 2 the other, with its place
abbrev pub sized : ℕ → ℕ → Reply
sized k length = record { refusal = k; removed = 0; file = 0; place = 0; length = length }

abbrev pub plain : ℕ → Reply
plain k = sized k 0

abbrev pub placed : ℕ → ℕ → ℕ → Reply
placed file k p = record { refusal = k; removed = 0; file = file; place = p; length = 0 }

abbrev pub of_answer : Answer → Reply
of_answer a = record { refusal = a.refusal; removed = a.removed; file = 0; place = 0; length = 0 }

-- document 01's number and what comes along, as they cross: a place is that of a file, 1 the network and 2 the other
unfoldable pub file_of : ℕ → Option ℕ → ℕ
file_of file None = 0
file_of file (Some p) = file

unfoldable pub or_nought : Option ℕ → ℕ
or_nought None = 0
or_nought (Some k) = k

unfoldable pub of_reply_in : ℕ → outputs.Reply → Reply
of_reply_in file r = record { refusal = r.number; removed = 0; file = file_of file r.place; place = or_nought r.place; length = or_nought r.size }

-- most calls answer with the place in the file which is not the network
unfoldable pub of_reply : outputs.Reply → Reply
of_reply r = of_reply_in 2 r

-- a file that is read to its end, or refused
unfoldable pub of_outcome : {A : Type 0} → ℕ → Outcome A → Reply
of_outcome file (accepted a next) = sized 0 next
of_outcome file (refused k p) = placed file k p

-- the areas that pass the test, area a as the bit 1 << (a - 1)
unfoldable pub bits : (ℕ → Bool) → ℕ
bits f = (1 if f 1 else 0) + (2 if f 2 else 0) + (4 if f 3 else 0) + ((8 if f 4 else 0) + (16 if f 5 else 0) + (32 if f 6 else 0))

-- by what a file holds, or its refusal
unfoldable pub by_file : {A X : Type 0} → Outcome A → (ℕ → ℕ → X) → (A → X) → X
by_file (accepted a next) bad good = good a
by_file (refused k p) bad good = bad k p

-- 5 where the lent buffers do not fit; then the network's refusal; then the call under the network
unfoldable pub told : Bool → Outcome Network → (Network → Reply) → Reply
told fits o call = if fits then by_file o (placed 1) call else plain 5

-- a lent buffer afterwards: as it was where the call is not reached
unfoldable pub left : {X : Type 0} → Bool → Outcome Network → X → (Network → X) → X
left fits o buffer call = if fits then by_file o (λ k p. buffer) call else buffer

-- The key ring of this module: `unfolding opened` opens every definition above.
unfoldable pub opened : Unit {0}
unfolding file_of or_nought of_reply_in of_reply of_outcome bits by_file told left
opened = tt
