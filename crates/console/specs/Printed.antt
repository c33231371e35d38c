-- How much of a buffer a call's answer tells to be its text: what was written at the buffer's head. Assumes nothing.
use Rattle.std.specs.Prelude.{ℕ, List, leb, length, Result, Ok, Err}
use Rattle.std.specs.Prelude.{if◌then◌else◌}

-- nothing of one that was refused, and nothing past the buffer's end
unfoldable pub printed : {E : Type 0} → Result ℕ E → List ℕ → ℕ
printed (Ok k) out = if leb k (length out) then k else 0
printed (Err e) out = 0
