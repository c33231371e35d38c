-- Calls that fill a lent buffer: what they answer and what the buffer then holds. Document 01, "Who brings on which
-- number": "13 the output is too short (its needed length comes along; a longer one keeps its rest)"; "Each leaves all
-- lent bytes untouched". Assumes nothing.
use Rattle.std.specs.Prelude.{ℕ, ◌+◌, ◌≤◌, ◌≡◌, ◌&&◌, List, [], ◌∷◌, ◌++◌, leb, eqb, length, drop, set}
use Rattle.std.specs.Prelude.{Option, None, Some, Result, Ok, Err}
use Rattle.std.specs.Prelude.{if◌then◌else◌}
use Rattle.base.specs.RefusalNumbers.{number_of}
use Rattle.base.specs.declared.refusal.OutputError.{OutputError}

-- an answer as document 01 gives it: "a refusal number or 0", and what comes along: the place of a file's refusal, how
-- many numbers are written or needed
pub record Reply : Type 0 where
  pub number : ℕ
  pub place : Option ℕ
  pub size : Option ℕ

abbrev pub written : ℕ → Reply
written k = record { number = 0; place = None; size = Some k }

abbrev pub refused : ℕ → Reply
refused k = record { number = k; place = None; size = None }

-- refused with a number and its place in a file
abbrev pub refused_at : ℕ → ℕ → Reply
refused_at k p = record { number = k; place = Some p; size = None }

-- "its needed length comes along"
abbrev pub needed : ℕ → Reply
needed k = record { number = 13; place = None; size = Some k }

-- an answer's number and what comes along, for each of its cases
unfoldable pub reply_of : Result ℕ OutputError → Reply
reply_of (Ok k) = written k
reply_of (Err (OutputError.Refused r)) = refused (number_of r)
reply_of (Err (OutputError.TooShort k)) = needed k

-- a call refused with k, or with 0 and these numbers to write; 13 comes last in "Order"
module _ {X : Type 0} (k : ℕ) (xs : List X) (buffer : List X) where
  unfoldable pub output : Reply
  output = if eqb k 0 then (if leb (length xs) (length buffer) then written (length xs) else needed (length xs)) else refused k

  unfoldable pub output_after : List X
  output_after = if eqb k 0 && leb (length xs) (length buffer) then xs ++ drop (length xs) buffer else buffer

-- numbers written from a place on, those past the end dropped: what a pass over a list does to any buffer, so that a
-- pass over a short one counts
unfoldable pub put : {X : Type 0} → ℕ → List X → List X → List X
put at [] buffer = buffer
put at (x ∷ xs) buffer = put (at + 1) xs (set buffer at x)

-- xs, at most k of them, were put from `at` on, and r is the place behind them: what each part of such a pass promises
abbrev pub Puts : ℕ → List ℕ → List ℕ → ℕ → List ℕ → ℕ → Type 0
Puts at xs before r after k = (r ≡ at + length xs) × (after ≡ put at xs before) × (r ≤ at + k)

-- The key ring of this module: `unfolding opened` opens every definition above.
unfoldable pub opened : Unit {0}
unfolding reply_of output output_after put
opened = tt
