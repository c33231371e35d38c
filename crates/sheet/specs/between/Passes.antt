-- Whether a page, a sheet and a division are good, as the code tests it: record by record, page by page. A record is
-- read, written anew and compared, so that a test never names a byte's meaning. proofs/PassLaws.antt has that these
-- tests are `good_page`, `good_sheet` and `good_division`. Assumes nothing.
use Rattle.std.specs.Prelude.{ℕ, zero, suc, ◌+◌, ◌*◌, ◌-◌, Bool, true, ◌&&◌, ◌||◌, List, ◌≡◌, ltb, leb, eqb, length, get_or, take, drop}
use Rattle.std.specs.Prelude.{Option, None, Some}
use Rattle.base.specs.Choice.{◌if◌else◌}
use Rattle.std.specs.Prelude.{if◌then◌else◌}
use Rattle.base.specs.Lists.{same}
use Rattle.railway.specs.Ranges.{train_ok, track_ok, line_ok, minute_ok}
use Rattle.network.specs.Networks.{listed, area_of, station_row, blank_line}
use Rattle.railway.specs.Relations.{relation_ok, precedes}
use Rattle.timetable.specs.Good.{in_good, out_good, entry_good}
use Rattle.timetable.specs.Tables.{Entry}
use Rattle.records.specs.Bytes.{chunk, blank}
use Rattle.records.specs.Records.{decode_train, decode_visit, visit_bytes, encode_entry, decode_entry, encode_relation, decode_relation}
use Rattle.sheet.specs.Types.{Station, Line, InLink, OutLink, Visit, StationRow, LineRow, Network}
use Rattle.sheet.specs.declared.test.Extent.{Extent}
use Rattle.page.specs.Pages.{good_page}
use Rattle.sheet.specs.Sheets.{good_sheet, good_division}

-- links

unfoldable pub in_passes : Network → Station → InLink → Bool
in_passes n s InLink.Nothing = true
in_passes n s (InLink.From i) = in_good n s i

unfoldable pub out_passes : Network → Station → OutLink → Bool
out_passes n s OutLink.Nothing = true
out_passes n s (OutLink.To o) = out_good n s o

-- a visit's values, with the count of its station's tracks looked up before

-- 0 where the station is not listed
abbrev pub row_tracks : Option StationRow → ℕ
row_tracks None = 0
row_tracks (Some r) = r.tracks

unfoldable pub tracks_at : Network → Station → ℕ
tracks_at n s = row_tracks (station_row n s)

unfoldable pub values_pass : ℕ → Visit → Bool
values_pass k v = (track_ok v.track && leb v.track.0 k) && (minute_ok v.arrival && minute_ok v.departure)

-- links, with the row looked up before that stands at the index of their line's number

unfoldable pub row_place : Line → ℕ
row_place l = if line_ok l then l.0 - 1 else 0

unfoldable pub row_there : Network → Line → LineRow
row_there n l = get_or n.lines (row_place l) blank_line

abbrev pub RowOfByte : Network → ℕ → LineRow → Type 0
RowOfByte n l r = r ≡ row_there n (record { 0 = l })

abbrev pub RowOfIn : Network → InLink → LineRow → Type 0
RowOfIn n InLink.Nothing r = Unit {0}
RowOfIn n (InLink.From i) r = r ≡ row_there n i.line

abbrev pub RowOfOut : Network → OutLink → LineRow → Type 0
RowOfOut n OutLink.Nothing r = Unit {0}
RowOfOut n (OutLink.To o) r = r ≡ row_there n o.line

-- records

-- the record is that of what it is read as, which passes the test
unfoldable pub record_passes : {A : Type 0} → (A → List ℕ) → (List ℕ → A) → (A → Bool) → List ℕ → Bool
record_passes encode decode ok r = same r (encode (decode r)) && ok (decode r)

-- the record at an index is the first, or comes after the one before it
unfoldable pub comes_after : {A : Type 0} → (List ℕ → A) → (A → A → Bool) → List ℕ → ℕ → Bool
comes_after decode before b i = eqb i 0 || before (decode (chunk (i - 1) b)) (decode (chunk i b))

-- n indexes from i on all pass
unfoldable pub each_index : (ℕ → Bool) → ℕ → ℕ → Bool
each_index f zero i = true
each_index f (suc n) i = f i && each_index f n (i + 1)

unfoldable pub records_pass : {A : Type 0} → (A → List ℕ) → (List ℕ → A) → (A → Bool) → (A → A → Bool) → ℕ → List ℕ → Bool
records_pass encode decode ok before n b = each_index (λ i. record_passes encode decode ok (chunk i b) && comes_after decode before b i) n 0

-- n records, then zeros
unfoldable pub slots_passes : {A : Type 0} → (A → List ℕ) → (List ℕ → A) → (A → Bool) → (A → A → Bool) → ℕ → List ℕ → Bool
slots_passes encode decode ok before n b = records_pass encode decode ok before n b && blank (drop (16 * n) b)

-- visits rise by train, relations in their order

abbrev pub earlier : Entry → Entry → Bool
earlier e f = ltb e.train.0 f.train.0

unfoldable pub visit_passes : Network → Station → List ℕ → Bool
visit_passes n s r = record_passes encode_entry decode_entry (entry_good n s) r

-- the number of the train of a record that is its train's and visit's own, where the visit fits
unfoldable pub train_if : Bool → List ℕ → ℕ
train_if fits r = (decode_train r).0 if same r (visit_bytes (decode_train r) (decode_visit r)) && (train_ok (decode_train r) && fits) else 0

-- the number of its train, 0 where it does not pass
unfoldable pub passing_train : Network → Station → List ℕ → ℕ
passing_train n s r = (decode_train r).0 if visit_passes n s r else 0

unfoldable pub relation_passes : List ℕ → Bool
relation_passes r = record_passes encode_relation decode_relation relation_ok r

unfoldable pub train_after : List ℕ → ℕ → Bool
train_after b i = comes_after decode_entry earlier b i

unfoldable pub relation_after : List ℕ → ℕ → Bool
relation_after b i = comes_after decode_relation precedes b i

unfoldable pub visit_run : Network → Station → ℕ → List ℕ → Bool
visit_run n s k b = records_pass encode_entry decode_entry (entry_good n s) earlier k b

unfoldable pub relation_run : ℕ → List ℕ → Bool
relation_run k b = records_pass encode_relation decode_relation relation_ok precedes k b

unfoldable pub visits_pass : Network → Station → ℕ → List ℕ → Bool
visits_pass n s k b = slots_passes encode_entry decode_entry (entry_good n s) earlier k b

unfoldable pub relations_pass : ℕ → List ℕ → Bool
relations_pass k b = slots_passes encode_relation decode_relation relation_ok precedes k b

-- a page

-- the head's unused bytes, and the two slots
unfoldable pub content_passes : Network → Station → List ℕ → Bool
content_passes n s page =
    blank (take 30 (drop 2 page))
    && (visits_pass n s (get_or page 0 0) (take 384 (drop 32 page)) && relations_pass (get_or page 1 0) (take 96 (drop 416 page)))

unfoldable pub page_passes : Network → Station → List ℕ → Bool
page_passes n s page = eqb (length page) 512 && (leb (get_or page 0 0) 24 && (leb (get_or page 1 0) 6 && content_passes n s page))

-- sheets

-- the stations that a sheet is over: all that are listed, or those of an area
unfoldable pub covers : Network → Extent → Station → Bool
covers n Extent.Whole k = listed n k
covers n (Extent.Of a) k = listed n k && eqb a.0 (area_of n k)

-- the page of such a station is good, any other is zeros
unfoldable pub place_passes : Network → Extent → Station → List ℕ → Bool
place_passes n extent k page = if covers n extent k then good_page n k page else blank page

-- what is no sheet or division does not pass
unfoldable pub sheet_passes : Network → Extent → List ℕ → Bool
sheet_passes n extent sheet = eqb (length sheet) 8192 && good_sheet n (covers n extent) sheet

unfoldable pub division_passes : Network → List ℕ → Bool
division_passes n division = eqb (length division) 49152 && good_division n division

-- The key ring of this module: `unfolding opened` opens every definition above.
unfoldable pub opened : Unit {0}
unfolding in_passes out_passes tracks_at values_pass row_place row_there record_passes comes_after each_index records_pass slots_passes visit_passes train_if passing_train relation_passes train_after relation_after visit_run relation_run
    visits_pass relations_pass content_passes page_passes covers place_passes sheet_passes division_passes
opened = tt
