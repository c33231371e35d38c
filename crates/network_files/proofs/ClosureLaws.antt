-- A closure read number by number behind the closure before: its line and its start are compared with that one's, its
-- end with nothing. Assumes nothing.
use Prim.Native.Nat.{ℕ, ◌%◌, ◌≤◌}
use mathlib.Core.Path.{◌≡◌, refl, ap}
use mathlib.Core.Bool.{Bool, true, false}
use mathlib.Core.List.{List, [], ◌∷◌}
use native.Mathlib.Omega.{arith}
use lib.Dec.{eqb}
use Rattle.std.specs.Prelude.{if◌then◌else◌}
use Rattle.railway.specs.Ranges.{last_minute, last_end}
use Rattle.timetable.specs.Formats.{Outcome, accepted, refused, ◌and_then◌, field_at, behind, read, least, floor_after, compared, row}
use Rattle.timetable.specs.NetworkFile.{closure_ranges, closure_of, closure_fields}
use Rattle.network.specs.declared.Closure.{Closure}
use Rattle.fields.proofs.EntryLaws.{small}

-- nothing is left to compare an end with
ends_free : (a b l s : ℕ) → floor_after s (floor_after l (a ∷ b ∷ [])) ≡ []
unfolding floor_after
ends_free a b l s = go (eqb l a)
  where
    go : (t : Bool) → floor_after s (if t then b ∷ [] else []) ≡ []
    go true = refl
    go false = refl

module _ (a b : ℕ) (file : List ℕ) (at : ℕ) where
  abbrev before : List ℕ
  before = a ∷ b ∷ []

  pub line_stop : (k p : ℕ) → field_at (least 1 before) 32 file at ≡ refused k p → read (closure_fields before) file at ≡ refused k p
  unfolding closure_fields closure_ranges row compared ◌and_then◌ read behind
  line_stop k p e = rw e

  module _ (l p : ℕ) (e : field_at (least 1 before) 32 file at ≡ accepted l p) where
    pub start_stop : (k q : ℕ) → field_at (least 0 (floor_after l before)) last_minute file p ≡ refused k q → read (closure_fields before) file at ≡ refused k q
    unfolding closure_fields closure_ranges row compared ◌and_then◌ read behind
    start_stop k q f = rw (e, f)

    module _ (s q : ℕ) (f : field_at (least 0 (floor_after l before)) last_minute file p ≡ accepted s q) where
      abbrev free : least 1 (floor_after s (floor_after l before)) ≡ 1
      unfolding least
      free = ap (least 1) (ends_free a b l s)

      pub end-stop : (k r : ℕ) → field_at 1 last_end file q ≡ refused k r → read (closure_fields before) file at ≡ refused k r
      unfolding closure_fields closure_ranges row compared ◌and_then◌ read behind
      end-stop k r g = rw (e, f, free, g)

      pub closure-some : (k r : ℕ) → field_at 1 last_end file q ≡ accepted k r → l ≤ 32 → (n : ℕ) → n ≡ l % 256
          → ◌≡◌ {A = Outcome Closure} (accepted (record { line = record { 0 = n }; start = record { 0 = s }; end = record { 0 = k } }) r) (read (closure_fields before) file at)
      unfolding closure_fields closure_ranges closure_of row compared ◌and_then◌ read behind
      closure-some k r g h n w =
          let v = small n l w (omega arith) in
          rw (e, f, free, g, v)
