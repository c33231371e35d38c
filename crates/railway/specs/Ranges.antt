-- The ranges of the sorts, and when two of a sort are the same. Document 01, "The railway and its numbers"; document
-- 02, W1 and W3. Assumes nothing.
use Rattle.std.specs.Prelude.{ℕ, Bool, leb, eqb, ℤ}
use Rattle.std.proofs.Math.IntN.{sub_ℕ}
use Rattle.base.specs.Lists.{within}
use Rattle.railway.specs.Types.{Station, Train, Track, Line, Area, Minute, WindowEnd}

-- "Station 1..16, area 1..6, train 1..9999, line 1..32, track 1..8"
abbrev pub station_ok : Station → Bool
station_ok s = within 1 16 s.0

abbrev pub area_ok : Area → Bool
area_ok a = within 1 6 a.0

abbrev pub train_ok : Train → Bool
train_ok t = within 1 9999 t.0

abbrev pub line_ok : Line → Bool
line_ok l = within 1 32 l.0

abbrev pub track_ok : Track → Bool
track_ok t = within 1 8 t.0

-- document 02, W3: "Trains numbered 5000 and up are freight"
abbrev pub is_freight : Train → Bool
is_freight t = leb 5000 t.0

-- "Times are whole minutes from 0 to 2879."
abbrev pub last_minute : ℕ
last_minute = 2879

abbrev pub minute_ok : Minute → Bool
minute_ok m = leb m.0 last_minute

-- "from a first minute up to but not including an end"; "ends 1..2880"
abbrev pub last_end : ℕ
last_end = 2880

abbrev pub window_end_ok : WindowEnd → Bool
window_end_ok e = within 1 last_end e.0

-- how many minutes the second is after the first, with its sign
abbrev pub minutes_after : Minute → Minute → ℤ
minutes_after m k = sub_ℕ k.0 m.0

-- "Intervals are 0..240, running times 1..240."
abbrev pub interval_ok : ℕ → Bool
interval_ok i = leb i 240

abbrev pub run_ok : ℕ → Bool
run_ok r = within 1 240 r

abbrev pub same_station : Station → Station → Bool
same_station a b = eqb a.0 b.0

abbrev pub same_train : Train → Train → Bool
same_train a b = eqb a.0 b.0

abbrev pub same_track : Track → Track → Bool
same_track a b = eqb a.0 b.0

abbrev pub same_line : Line → Line → Bool
same_line a b = eqb a.0 b.0

abbrev pub same_minute : Minute → Minute → Bool
same_minute a b = eqb a.0 b.0
