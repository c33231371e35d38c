-- From a place that is not too far, with numbers that are there, the functions put their whole text. Assumes nothing.
use Prim.Native.Nat.{ℕ, ◌*◌, ◌≤◌}
use mathlib.Core.Path.{◌≡◌}
use mathlib.Core.List.{List}
use lib.IntN.{ℤ}
use lib.ListN.{length, take}
use borrow.Author.Tests.{le-leb}
use Rattle.listings.specs.Text.{line}
use Rattle.listings.specs.Shift.{refusal_text}
use Rattle.text.specs.between.Lines.{far, line_at, refusal_at, findings_text, findings_at}
use Rattle.text.specs.between.Rows.{rows_text, rows_at}

pub refusal_there : (number place : ℕ) → place ≤ 16384 → refusal_at number place ≡ refusal_text number place
unfolding refusal_at
refusal_there number place h = rw (le-leb place 16384 h)

module _ (at : ℕ) (near : at ≤ far) where
  pub line_there : (letter : ℕ) (xs : List ℕ) → length xs ≤ 6 → line_at at letter xs ≡ line letter xs
  unfolding line_at
  line_there letter xs h = rw (le-leb at far near, le-leb (length xs) 6 h)

  pub findings_there : (letter : ℕ) (areas : List ℕ) (count : ℕ) (xs : List ℕ) → count ≤ 200000 → 4 * count ≤ length xs
      → findings_at at letter areas count xs ≡ findings_text letter areas (take (4 * count) xs)
  unfolding findings_at
  findings_there letter areas count xs h fits = rw (le-leb at far near, le-leb count 200000 h, le-leb (4 * count) (length xs) fits)

  pub rows_there : (s t count : ℕ) (zs : List ℤ) → count ≤ 16 → 4 * count ≤ length zs → rows_at at s t count zs ≡ rows_text s t (take (4 * count) zs)
  unfolding rows_at
  rows_there s t count zs h fits = rw (le-leb at far near, le-leb count 16 h, le-leb (4 * count) (length zs) fits)
