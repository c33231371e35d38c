-- What a read that failed left in the buffer that it was to fill: what it had read until then. Assumes nothing.
use Rattle.std.specs.Prelude.{ℕ, ◌<◌, List, length, take, Option}
use Rattle.std.specs.Io.KnownBytes.{Consumes}

-- a head of the buffer, shorter than it, is what the reader gave
abbrev pub ReadPart : Option (List ℕ) → Option (List ℕ) → List ℕ → Type 0
ReadPart before after buffer = (n : ℕ) × (n < length buffer) × Consumes before after (take n buffer)
