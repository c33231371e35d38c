-- A row of slots on a page, that of the visits or that of the relations, and what the functions on a row answer and do:
-- a record is sought by a test of its bytes. On the two rows they are the functions on pages (Changes). Assumes nothing.
use Rattle.std.specs.Prelude.{ℕ, ◌+◌, ◌*◌, ◌-◌, ◌≤◌, ◌<◌, min, Bool, ◌&&◌, List, [], ltb, eqb, length, get_or, take, drop}
use Rattle.std.specs.Prelude.{Option, None}
use Rattle.std.specs.Prelude.{if◌then◌else◌}
use Rattle.records.specs.Bytes.{splice}
use Rattle.page.specs.declared.slots.Slots.{Slots}
use Rattle.page.specs.Pages.{records_of}
use Rattle.page.specs.between.Changes.{index_of, found, with_record, without_record, counts_to}

-- the row lies on a page behind the head
abbrev pub Fits : Slots → Type 0
Fits s = (s.head < 32) × (32 ≤ s.from) × (0 < s.most) × (s.from + 16 * s.most ≤ 512)

-- the records that are counted, at most those that there is room for
unfoldable pub records_in : Slots → List ℕ → List (List ℕ)
records_in s page = records_of (min (get_or page s.head 0) s.most) (drop s.from page)

unfoldable pub count_in : Slots → List ℕ → ℕ
count_in s page = if eqb (length page) 512 then min (get_or page s.head 0) s.most else 0

unfoldable pub record_in : Slots → ℕ → List ℕ → List ℕ
record_in s i page = if ltb i (count_in s page) then take 16 (drop (s.from + 16 * i) page) else []

module _ (s : Slots) (p : List ℕ → Bool) where
  -- where the first record that passes the test stands
  unfoldable pub place_in : List ℕ → ℕ
  place_in page = index_of p (records_in s page)

  unfoldable pub found_in : List ℕ → Option ℕ
  found_in page = if eqb (length page) 512 then found (place_in page) (min (get_or page s.head 0) s.most) else None

  -- a record put in before it, where there is room, and how many that moves
  unfoldable pub added : List ℕ → List ℕ → List ℕ
  added r page = if counts_to s.head (s.most - 1) page then with_record s.head s.from (place_in page) r page else page

  unfoldable pub moved_by : List ℕ → ℕ
  moved_by page = if counts_to s.head (s.most - 1) page then get_or page s.head 0 - place_in page else 0

  -- a record written over it, and the record taken out
  unfoldable pub written : List ℕ → List ℕ → List ℕ
  written r page =
      if counts_to s.head s.most page && ltb (place_in page) (get_or page s.head 0)
      then splice (s.from + 16 * place_in page) r page
      else page

  unfoldable pub removed : List ℕ → List ℕ
  removed page =
      if counts_to s.head s.most page && ltb (place_in page) (get_or page s.head 0)
      then without_record s.head s.from (place_in page) page
      else page

-- The key ring of this module: `unfolding opened` opens every definition above.
unfoldable pub opened : Unit {0}
unfolding records_in count_in record_in place_in found_in added moved_by written removed
opened = tt
