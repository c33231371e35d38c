-- Choice of a number by a test. Assumes nothing.
use Rattle.std.specs.Prelude.{ℕ, Bool, true, false}

-- a number where its test holds, else what follows: `7 if b else 8 if c else 0`
infixr 20 ◌if◌else◌
abbrev pub ◌if◌else◌ : ℕ → Bool → ℕ → ℕ
◌if◌else◌ n true m = n
◌if◌else◌ n false m = m
