-- Document 01's listing, from the bytes of its numbers to the bytes of its lines; the lines of refused files; and what
-- `inspect` prints. Proved by evaluation. Assumes nothing.
use Rattle.std.specs.Prelude.{ℕ, ◌+◌, ◌≡◌, refl, true, List, [], ◌∷◌, ◌++◌, length, replicate}
use Rattle.base.specs.Lists.{every, same}
use Rattle.timetable.specs.Cases as Cases
use Rattle.timetable.specs.Pieces.{size, one_station, first_line, net_numbers, loop_numbers}
use Rattle.timetable.specs.Formats as Formats
use Rattle.timetable.specs.Formats.{bytes_of}
use Rattle.timetable.specs.NetworkFile as NetworkFile
use Rattle.timetable.specs.EditsFile as EditsFile
use Rattle.timetable.specs.InspectFile as InspectFile
use Rattle.listings.specs.Text as Text
use Rattle.listings.specs.Text.{line}
use Rattle.listings.specs.Shift as Shift
use Rattle.listings.specs.Shift.{shift_text}
use Rattle.listings.specs.Inspect as Inspect
use Rattle.listings.specs.Inspect.{inspect_text}

-- `2, 1 1 2, 2 2 1, 3, 1, 1 1 2 3 10 1, 4, 1 1 7 1 100 102, 3 2 7 1 115 115 1 1 12, 1 1 7 1 100 102, 9 1 1 5 2 7 9`,
-- with W1's 0 before its edits, W3's second least time and W6's mark of 0 behind each track
pub input : List ℕ
input =
    2 ∷ 1 ∷ 1 ∷ 2 ∷ 2 ∷ 2 ∷ 1 ∷ 3 ∷ 1 ∷ 1 ∷ 1 ∷ 2 ∷ 3 ∷ 10 ∷ 10 ∷ 1 ∷ 0
    ∷ 4 ∷ 1 ∷ 1 ∷ 7 ∷ 1 ∷ 0 ∷ 100 ∷ 102 ∷ 3 ∷ 2 ∷ 7 ∷ 1 ∷ 0 ∷ 115 ∷ 115 ∷ 1 ∷ 1 ∷ 12
    ∷ 1 ∷ 1 ∷ 7 ∷ 1 ∷ 0 ∷ 100 ∷ 102 ∷ 9 ∷ 1 ∷ 1 ∷ 5 ∷ 2 ∷ 7 ∷ 9 ∷ []

-- in ASCII
pub lines : List ℕ
lines =
    -- E 1 0 0, E 2 0 0, E 3 8 0, E 4 0 0
    69 ∷ 32 ∷ 49 ∷ 32 ∷ 48 ∷ 32 ∷ 48 ∷ 10
    ∷ 69 ∷ 32 ∷ 50 ∷ 32 ∷ 48 ∷ 32 ∷ 48 ∷ 10
    ∷ 69 ∷ 32 ∷ 51 ∷ 32 ∷ 56 ∷ 32 ∷ 48 ∷ 10
    ∷ 69 ∷ 32 ∷ 52 ∷ 32 ∷ 48 ∷ 32 ∷ 48 ∷ 10
    -- F 1 4 1 0, F 1 9 7 0
    ∷ 70 ∷ 32 ∷ 49 ∷ 32 ∷ 52 ∷ 32 ∷ 49 ∷ 32 ∷ 48 ∷ 10
    ∷ 70 ∷ 32 ∷ 49 ∷ 32 ∷ 57 ∷ 32 ∷ 55 ∷ 32 ∷ 48 ∷ 10
    -- T 2 1 2
    ∷ 84 ∷ 32 ∷ 50 ∷ 32 ∷ 49 ∷ 32 ∷ 50 ∷ 10
    -- A 3 1 2 0
    ∷ 65 ∷ 32 ∷ 51 ∷ 32 ∷ 49 ∷ 32 ∷ 50 ∷ 32 ∷ 48 ∷ 10 ∷ []

-- what each input prints
pub rows : List (List ℕ × List ℕ)
unfolding input lines
rows =
    (input, lines)
    -- an empty file: R 1 0
    ∷ ([], 82 ∷ 32 ∷ 49 ∷ 32 ∷ 48 ∷ 10 ∷ [])
    -- a byte too many: R 1 49
    ∷ (input ++ (0 ∷ []), line 82 (1 ∷ length input ∷ []))
    -- a line that ends where it starts, before any edit: R 4 9
    ∷ (bytes_of (loop_numbers ++ (0 ∷ [])), line 82 (4 ∷ first_line ∷ []))
    -- as many bytes as may be, and one more: R 3 0, R 5 0
    ∷ (replicate 16384 0, 82 ∷ 32 ∷ 51 ∷ 32 ∷ 48 ∷ 10 ∷ [])
    ∷ (replicate 16385 0, 82 ∷ 32 ∷ 53 ∷ 32 ∷ 48 ∷ 10 ∷ [])
    -- no edits: T 0 0 0, A 0 0 0 0
    ∷ (bytes_of (one_station 1 1 1 1 ++ (0 ∷ [])), 84 ∷ 32 ∷ 48 ∷ 32 ∷ 48 ∷ 32 ∷ 48 ∷ 10 ∷ 65 ∷ 32 ∷ 48 ∷ 32 ∷ 48 ∷ 32 ∷ 48 ∷ 32 ∷ 48 ∷ 10 ∷ [])
    ∷ []

pub listing_holds : every (λ r. same (shift_text r.0) r.1) rows ≡ true
unfolding rows Cases.opened Formats.opened NetworkFile.opened EditsFile.opened Text.opened Shift.opened
listing_holds = refl

-- `inspect`

-- the listing's network, and `3, 1 7 1 0 100 1 102 0 0 2 1 12, 2 7 1 0 130 0 130 0 1 1 0, 2 8 1 0 128 0 131 0 0 0, 1,
-- 1 1 5 2 7 9`: train 7 runs from area 1 to area 2, where train 8 stands on its track; train 9 of the connection
-- is missing
pub inspect_input : List ℕ
inspect_input =
    bytes_of net_numbers
    ++ (3 ∷ 1 ∷ 7 ∷ 1 ∷ 0 ∷ 100 ∷ 1 ∷ 102 ∷ 0 ∷ 0 ∷ 2 ∷ 1 ∷ 12
    ∷ 2 ∷ 7 ∷ 1 ∷ 0 ∷ 130 ∷ 1 ∷ 0 ∷ 130 ∷ 1 ∷ 0 ∷ 1 ∷ 1 ∷ 0
    ∷ 2 ∷ 8 ∷ 1 ∷ 0 ∷ 128 ∷ 1 ∷ 0 ∷ 131 ∷ 1 ∷ 0 ∷ 0 ∷ 0
    ∷ 1 ∷ 1 ∷ 1 ∷ 5 ∷ 2 ∷ 7 ∷ 9 ∷ [])

-- in ASCII. The first arrival has occurred and stands; train 7 then comes to station 2 at 102 + 12, which is 16 early
pub inspect_lines : List ℕ
inspect_lines =
    -- F 1 4 1 0, F 1 9 7 0, F 2 2 7 8
    70 ∷ 32 ∷ 49 ∷ 32 ∷ 52 ∷ 32 ∷ 49 ∷ 32 ∷ 48 ∷ 10
    ∷ 70 ∷ 32 ∷ 49 ∷ 32 ∷ 57 ∷ 32 ∷ 55 ∷ 32 ∷ 48 ∷ 10
    ∷ 70 ∷ 32 ∷ 50 ∷ 32 ∷ 50 ∷ 32 ∷ 55 ∷ 32 ∷ 56 ∷ 10
    -- D 1 1 4 1 0, D 2 2 2 7 8
    ∷ 68 ∷ 32 ∷ 49 ∷ 32 ∷ 49 ∷ 32 ∷ 52 ∷ 32 ∷ 49 ∷ 32 ∷ 48 ∷ 10
    ∷ 68 ∷ 32 ∷ 50 ∷ 32 ∷ 50 ∷ 32 ∷ 50 ∷ 32 ∷ 55 ∷ 32 ∷ 56 ∷ 10
    -- P 1 2 1 9 7 0
    ∷ 80 ∷ 32 ∷ 49 ∷ 32 ∷ 50 ∷ 32 ∷ 49 ∷ 32 ∷ 57 ∷ 32 ∷ 55 ∷ 32 ∷ 48 ∷ 10
    -- T 3 1 3
    ∷ 84 ∷ 32 ∷ 51 ∷ 32 ∷ 49 ∷ 32 ∷ 51 ∷ 10
    -- J 1 7 1 100 102 0, J 1 7 2 114 130 -16, J 2 7 2 135 136 5, J 2 8 2 133 134 5
    ∷ 74 ∷ 32 ∷ 49 ∷ 32 ∷ 55 ∷ 32 ∷ 49 ∷ 32 ∷ 49 ∷ 48 ∷ 48 ∷ 32 ∷ 49 ∷ 48 ∷ 50 ∷ 32 ∷ 48 ∷ 10
    ∷ 74 ∷ 32 ∷ 49 ∷ 32 ∷ 55 ∷ 32 ∷ 50 ∷ 32 ∷ 49 ∷ 49 ∷ 52 ∷ 32 ∷ 49 ∷ 51 ∷ 48 ∷ 32 ∷ 45 ∷ 49 ∷ 54 ∷ 10
    ∷ 74 ∷ 32 ∷ 50 ∷ 32 ∷ 55 ∷ 32 ∷ 50 ∷ 32 ∷ 49 ∷ 51 ∷ 53 ∷ 32 ∷ 49 ∷ 51 ∷ 54 ∷ 32 ∷ 53 ∷ 10
    ∷ 74 ∷ 32 ∷ 50 ∷ 32 ∷ 56 ∷ 32 ∷ 50 ∷ 32 ∷ 49 ∷ 51 ∷ 51 ∷ 32 ∷ 49 ∷ 51 ∷ 52 ∷ 32 ∷ 53 ∷ 10
    -- W 1
    ∷ 87 ∷ 32 ∷ 49 ∷ 10 ∷ []

-- what each input prints
pub inspect_rows : List (List ℕ × List ℕ)
unfolding inspect_input inspect_lines
inspect_rows =
    (inspect_input, inspect_lines)
    -- an empty timetable: T 0 0 0, W 1
    ∷ (bytes_of (one_station 1 1 1 1 ++ (0 ∷ 0 ∷ [])), 84 ∷ 32 ∷ 48 ∷ 32 ∷ 48 ∷ 32 ∷ 48 ∷ 10 ∷ 87 ∷ 32 ∷ 49 ∷ 10 ∷ [])
    -- an empty file: R 1 0
    ∷ ([], 82 ∷ 32 ∷ 49 ∷ 32 ∷ 48 ∷ 10 ∷ [])
    -- a byte too many: R 1 9
    ∷ (bytes_of (one_station 1 1 1 1 ++ (0 ∷ 0 ∷ 0 ∷ [])), line 82 (1 ∷ (size (one_station 1 1 1 1) + 2) ∷ []))
    -- a line that ends where it starts: R 4 9; a faulty number of the timetable behind it comes first: R 3 17
    ∷ (bytes_of (loop_numbers ++ (0 ∷ 0 ∷ [])), line 82 (4 ∷ first_line ∷ []))
    ∷ (bytes_of (loop_numbers ++ (0 ∷ 97 ∷ [])), line 82 (3 ∷ (size loop_numbers + 1) ∷ []))
    -- a visit on a track that its station lacks: R 7 8
    ∷ (bytes_of (one_station 1 1 1 1 ++ (1 ∷ 1 ∷ 7 ∷ 2 ∷ 0 ∷ 0 ∷ 0 ∷ 0 ∷ 0 ∷ 0 ∷ 0 ∷ 0 ∷ [])), line 82 (7 ∷ (size (one_station 1 1 1 1) + 1) ∷ []))
    -- as many bytes as may be, and one more: R 3 0, R 5 0
    ∷ (replicate 16384 0, 82 ∷ 32 ∷ 51 ∷ 32 ∷ 48 ∷ 10 ∷ [])
    ∷ (replicate 16385 0, 82 ∷ 32 ∷ 53 ∷ 32 ∷ 48 ∷ 10 ∷ [])
    ∷ []

pub inspect_holds : every (λ r. same (inspect_text r.0) r.1) inspect_rows ≡ true
unfolding inspect_rows Cases.opened Formats.opened NetworkFile.opened EditsFile.opened InspectFile.opened Text.opened Shift.opened Inspect.opened
inspect_holds = refl
