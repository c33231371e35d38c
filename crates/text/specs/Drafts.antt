-- What a function answers and leaves that puts a text by calls which it is lent: into the buffer where that has room
-- for any text, and else into a draft first, so that a buffer that is too short is left as it was. Assumes nothing.
use Rattle.std.specs.Prelude.{ℕ, ◌≡◌, ◌≤◌, ◌<◌, List, ◌++◌, length, take, drop, Result, Ok, Err}
use Rattle.std.specs.Borrow.{MutBor}
use Rattle.base.specs.declared.refusal.OutputError.{OutputError}

-- a call that is lent a buffer may answer r and leave it so
abbrev pub Calls : (MutBor (List ℕ) → ℕ → MutBor (List ℕ) → Type 0) → List ℕ → ℕ → List ℕ → Type 0
Calls post before r after = (x : MutBor (List ℕ)) × (y : MutBor (List ℕ)) × post x r y × (x.now ≡ before) × (y.now ≡ after)

module _ (post : MutBor (List ℕ) → ℕ → MutBor (List ℕ) → Type 0) (out draft : List ℕ) where
  -- a call puts at once
  abbrev pub AtOnce : Result ℕ OutputError → List ℕ → List ℕ → Type 0
  AtOnce r later drafted = (k : ℕ) × Calls post out k later × (r ≡ Ok k) × (drafted ≡ draft)

  -- a call counted so many bytes in the draft: the buffer is too short for them, or is given what the draft holds of
  -- them, or is lent to a call again where the draft has no room for them all
  abbrev pub Counted : ℕ → Result ℕ OutputError → List ℕ → List ℕ → Type 0
  Counted needed r later drafted =
      Calls post draft needed drafted
      × (length out < needed → (r ≡ Err (OutputError.TooShort needed)) × (later ≡ out))
      × (needed ≤ length out → r ≡ Ok needed)
      × (needed ≤ length out → needed ≤ length draft → later ≡ take needed drafted ++ drop needed out)
      × (needed ≤ length out → length draft < needed → (k : ℕ) × Calls post out k later)

  -- the buffer has room for `most` bytes, or not
  abbrev pub Drafted : ℕ → Result ℕ OutputError → List ℕ → List ℕ → Type 0
  Drafted most r later drafted =
      (most ≤ length out → AtOnce r later drafted)
      × (length out < most → (needed : ℕ) × Counted needed r later drafted)
