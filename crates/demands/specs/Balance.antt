-- What the tally promises of the calls. Document 01, "Projection and tally": "Over every list of edits that the tally
-- counts in full, visits at the start plus added less removed are the visits at the end." Of the bytes: edits on a
-- sheet and on a division, each on what the one before left, by the definitions that the calls' contracts cite (machine
-- Calls), and the tally raised by each answer (timetable Count). Nothing here is proved. Assumes nothing.
use Rattle.std.specs.Prelude.{ℕ, ◌+◌, ◌≡◌, List, T, length}
use Rattle.base.specs.Runs.{run, answers}
use Rattle.network.specs.Networks.{network_refusal, listed}
use Rattle.timetable.specs.Count.{zero_tally, raise_all, counts_in_full, visit_count}
use Rattle.sheet.specs.Sheets.{decode_sheet, good_sheet, good_division, merged}
use Rattle.machine.specs.Calls.{sheet_answer, sheet_after, division_answer, division_after}
use Rattle.demands.specs.Types.{Edit, Network, Answer}

-- the visits of a sheet, and of a division: of the sheet that it merges to
unfoldable pub sheet_visits : Network → List ℕ → ℕ
sheet_visits n sheet = visit_count n (decode_sheet sheet)

unfoldable pub division_visits : Network → List ℕ → ℕ
division_visits n division = sheet_visits n (merged n division)

-- edits, the answers that they got, and the visits before and after; without subtraction, the removed visits stand on
-- the side of the end
abbrev pub Balanced : List Edit → List Answer → ℕ → ℕ → Type 0
Balanced es as' before later =
    T (counts_in_full zero_tally es as') → before + (raise_all zero_tally es as').added ≡ later + (raise_all zero_tally es as').removed

-- every good network, every good sheet or division, every list of edits
abbrev pub SheetsBalance : Type 0
SheetsBalance = (n : Network) → network_refusal n ≡ 0 → (sheet : List ℕ) → length sheet ≡ 8192 → T (good_sheet n (listed n) sheet) → (es : List Edit)
    → Balanced es (answers (sheet_after n) (sheet_answer n) es sheet) (sheet_visits n sheet) (sheet_visits n (run (sheet_after n) es sheet))

abbrev pub DivisionsBalance : Type 0
DivisionsBalance = (n : Network) → network_refusal n ≡ 0 → (division : List ℕ) → length division ≡ 49152 → T (good_division n division) → (es : List Edit)
    → Balanced es (answers (division_after n) (division_answer n) es division) (division_visits n division) (division_visits n (run (division_after n) es division))

-- The key ring of this module: `unfolding opened` opens every definition above.
unfoldable pub opened : Unit {0}
unfolding sheet_visits division_visits
opened = tt
