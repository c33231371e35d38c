-- The network's format, walked: its numbers are the counts, the rows of stations, lines and closures and the headway,
-- each in range, the rows rising by their number. Rows rise if each is above the one before it. Assumes nothing.
use Prim.Native.Nat.{ℕ, ◌+◌, ◌*◌, ◌<◌, ◌≤◌, max}
use mathlib.Core.Path.{◌≡◌, refl, sym, ◌∙◌, ap, ap₂, subst}
use mathlib.Core.Bool.{Bool, true, false, ◌&&◌}
use mathlib.Core.List.{List, [], ◌∷◌, ◌++◌, map, flat_map}
use native.Mathlib.Omega.{arith}
use lib.Dec.{T, ltb, leb, eqb, eqb_refl, ltb→lt, lt→ltb, leb→le}
use borrow.Author.Tests.{eqb-true, eqb-false}
use lib.ListN.{length, drop, get_or, length-map}
use Rattle.std.specs.Prelude.{if◌then◌else◌}
use Rattle.base.specs.Lists.{every, each_two}
use Rattle.base.proofs.Tests.{T_true, and_r, parts, every_head, every_tail, every_cons, every_weaker}
use Rattle.base.proofs.Sorted.{smaller, two_head, two_tail, two_cons}
use Rattle.numbers.specs.Numbers.{width}
use Rattle.railway.specs.Ranges.{last_minute}
use Rattle.network.specs.Networks.{blank_station, blank_line, blank_closure, station_row_ok, line_row_ok, same_times, closure_ok, closure_number}
use Rattle.timetable.specs.declared.NetworkForm.{NetworkForm}
use Rattle.timetable.specs.Formats.{least, floor_after, Placed}
use Rattle.timetable.specs.NetworkFile.{station_ranges, station_of, station_numbers, station_entry, line_ranges, line_of, times, line_numbers, line_fields, line_entry}
use Rattle.timetable.specs.NetworkFile.{closure_ranges, closure_of, closure_numbers, closure_fields, closure_entry, Rows, Listed, station_floor, line_floor, closure_floor, stations_format, lines_format}
use Rattle.timetable.specs.NetworkFile.{closures_format, closures_part, closure_count_part, lines_part, count_part, headway_part, stations_part, network_format_as, rows_listed}
use Rattle.roundtrips.specs.Types.{StationRow, LineRow, Closure}
use Rattle.roundtrips.proofs.Walks.{InRange, walks}
use Rattle.roundtrips.proofs.WalkLaws.{span, walks_then, then_walks, walks_made, made_walks}
use Rattle.roundtrips.proofs.RowsWalked.{Over, over_none, by_index, row_test, Fields, kept_fields, tested_fields, and_assoc, and_true, nought_least, walks_fields, fields_walk}
use Rattle.roundtrips.proofs.RowsWalked.{Chain, values, Entry, walks_plain, plain_walks, walks_places, places_walk}

-- rows that rise by a number of theirs

-- a row is above the floor that another sets just if its number is above the other's; `low` is what that asks of the
-- other, which may be blank
pub record Order {A : Type 0} (number : A → ℕ) (floor_by numbers : A → List ℕ) (ok low : A → Bool) : Type 0 where
  pub lows : (x : A) → T (ok x) → T (low x)
  pub over : (x y : A) → T (low x) → T (ok y) → number x < number y → Over (floor_by x) (numbers y)
  pub under : (x y : A) → T (low x) → T (ok y) → Over (floor_by x) (numbers y) → number x < number y

module _ {A : Type 0} (number : A → ℕ) (ok : A → Bool) where
  pub record Rises (b : A) (xs : List A) : Type 0 where
    pub good : T (every ok xs)
    pub above : T (every (λ x. ltb (number b) (number x)) xs)
    pub order : T (each_two (smaller number) xs)

module _ {A : Type 0} {number : A → ℕ} {floor_by numbers : A → List ℕ} {ok low : A → Bool} (o : Order number floor_by numbers ok low) where
  -- in range, and above the floor
  abbrev pub RowFits : List ℕ → A → Type 0
  RowFits floor x = T (ok x) × Over floor (numbers x)

  pub rising_chain : (b : A) (xs : List A) → T (low b) → Rises number ok b xs → Chain floor_by RowFits (floor_by b) xs
  unfolding Chain
  rising_chain b [] l r = tt
  rising_chain b (x ∷ xs) l r =
      let good = every_head ok x xs r.good in (
        (good, o.over b x l good (ltb→lt (number b) (number x) (every_head (λ x. ltb (number b) (number x)) x xs r.above))),
        rising_chain x xs (o.lows x good) (record {
          good = every_tail ok x xs r.good;
          above = two_head (smaller number) x xs r.order;
          order = two_tail (smaller number) x xs r.order;
        }),
      )

  pub chain_rising : (b : A) (xs : List A) → T (low b) → Chain floor_by RowFits (floor_by b) xs → Rises number ok b xs
  unfolding Chain every each_two
  chain_rising b [] l c = record { good = tt; above = tt; order = tt }
  chain_rising b (x ∷ xs) l ((t, u), c) =
      let r = chain_rising x xs (o.lows x t) c in
      let h : number b < number x = o.under b x l t u in
      record {
        good = every_cons ok x xs t r.good;
        above = every_cons (λ x. ltb (number b) (number x)) x xs (lt→ltb (number b) (number x) h)
            (every_weaker (smaller number x) (λ y. ltb (number b) (number y)) (λ y l. lt→ltb (number b) (number y) (omega (arith, ltb→lt (number x) (number y) l))) xs r.above);
        order = two_cons (smaller number) x xs r.above r.order;
      }

-- by the first number
module _ {A : Type 0} (number : A → ℕ) (more : A → List ℕ) (ok : A → Bool) where
  pub by_first : Order number (λ x. number x ∷ []) (λ x. number x ∷ more x) ok (λ x. true)
  unfolding Over least floor_after
  by_first = record {
    lows = λ x t. tt;
    over = λ x y l t h. (omega arith, over_none (more y));
    under = λ x y l t o. omega (arith, o.0);
  }

-- stations and lines

abbrev pub station_number : StationRow → ℕ
station_number r = r.station.0

abbrev pub station_more : StationRow → List ℕ
station_more r = drop 1 (station_numbers r)

pub station_fields : Fields station_ranges station_of station_numbers station_row_ok
unfolding row_test by_index every station_ranges station_of station_numbers station_row_ok
station_fields =
    tested_fields station_ranges station_of station_numbers station_row_ok tt (λ ns. refl) (λ r. refl) (λ r. simp (and_assoc, and_true, nought_least))

abbrev pub line_number : LineRow → ℕ
line_number r = r.line.0

abbrev pub line_more : NetworkForm → LineRow → List ℕ
line_more form r = drop 1 (line_numbers form r)

-- a row that a file of this form can hold: with one time, both are the same
abbrev pub line_fits : NetworkForm → LineRow → Bool
line_fits NetworkForm.OneTime r = same_times r && line_row_ok r
line_fits NetworkForm.TwoTimes r = line_row_ok r

pub fits_ok : (form : NetworkForm) (r : LineRow) → T (line_fits form r) → T (line_row_ok r)
fits_ok NetworkForm.OneTime r t = and_r (same_times r) (line_row_ok r) t
fits_ok NetworkForm.TwoTimes r t = t

-- with both times the same, the test of one is the test of both
one_tested : (r : LineRow) → line_fits NetworkForm.OneTime r ≡ (same_times r && row_test (line_ranges NetworkForm.OneTime) (line_numbers NetworkForm.OneTime r))
unfolding row_test line_ranges line_numbers times line_row_ok same_times
one_tested r = go (same_times r) refl
  where
    twice : (a : Bool) → (a && a) ≡ a
    twice true = refl
    twice false = refl

    go : (b : Bool) → same_times r ≡ b → (b && line_row_ok r) ≡ (b && row_test (line_ranges NetworkForm.OneTime) (line_numbers NetworkForm.OneTime r))
    go false e = refl
    go true e = rw (← eqb-true r.passenger r.freight e) (simp (twice, and_assoc, and_true, nought_least))

pub line_row_fields : (form : NetworkForm) → Fields (line_ranges form) (line_of form) (line_numbers form) (line_fits form)
unfolding row_test by_index every line_ranges line_of line_numbers times line_row_ok same_times
line_row_fields NetworkForm.OneTime =
    kept_fields (line_ranges NetworkForm.OneTime) (line_of NetworkForm.OneTime) (line_numbers NetworkForm.OneTime) (line_fits NetworkForm.OneTime) tt (λ ns. refl)
    same_times (λ ns. eqb_refl (get_or ns 4 0)) (λ r t. ap (λ (f : ℕ). record { line = r.line; first = r.first; second = r.second; kind = r.kind; passenger = r.passenger; freight = f; capacity = r.capacity })
    (eqb-true r.passenger r.freight (T_true (same_times r) t))) one_tested
line_row_fields NetworkForm.TwoTimes =
    tested_fields (line_ranges NetworkForm.TwoTimes) (line_of NetworkForm.TwoTimes) (line_numbers NetworkForm.TwoTimes) line_row_ok tt (λ ns. refl) (λ r. refl)
    (λ r. simp (and_assoc, and_true, nought_least))

-- a closure's numbers are above a floor just if its line and start, as one number, are
pub closure_row_fields : Fields closure_ranges closure_of closure_numbers closure_ok
unfolding row_test by_index every closure_ranges closure_of closure_numbers closure_ok
closure_row_fields =
    tested_fields closure_ranges closure_of closure_numbers closure_ok tt (λ ns. refl) (λ r. refl) (λ r. simp (and_assoc, and_true, nought_least))

abbrev pub floor_by : Closure → List ℕ
floor_by c = c.line.0 ∷ c.start.0 ∷ []

abbrev pub low_start : Closure → Bool
low_start c = leb c.start.0 last_minute

closures_over : (c d : Closure) → T (low_start c) → T (closure_ok d) → closure_number c < closure_number d → Over (floor_by c) (closure_numbers d)
unfolding Over least floor_after closure_ok closure_number closure_numbers
closures_over c d l t h =
    let low = leb→le c.start.0 last_minute l in
    let high : T (leb d.start.0 last_minute) = search parts in
    go (eqb d.line.0 c.line.0) refl low (leb→le d.start.0 last_minute high)
  where
    go : (b : Bool) → eqb d.line.0 c.line.0 ≡ b → c.start.0 ≤ last_minute → d.start.0 ≤ last_minute
        → (max 0 c.line.0 ≤ d.line.0) × ((least 0 (if b then c.start.0 ∷ [] else []) ≤ d.start.0) × ((least 0 (floor_after d.start.0 (if b then c.start.0 ∷ [] else [])) ≤ d.end.0) × Unit {0}))
    go true e x y = let q = eqb-true d.line.0 c.line.0 e in (omega arith, (omega arith, (omega arith, tt)))
    go false e x y = let q = eqb-false d.line.0 c.line.0 e in (omega arith, (omega arith, (omega arith, tt)))

closures_under : (c d : Closure) → T (low_start c) → T (closure_ok d) → Over (floor_by c) (closure_numbers d) → closure_number c < closure_number d
unfolding Over least floor_after closure_ok closure_number closure_numbers
closures_under c d l t o =
    let low = leb→le c.start.0 last_minute l in
    go (eqb d.line.0 c.line.0) refl low o
  where
    go : (b : Bool) → eqb d.line.0 c.line.0 ≡ b → c.start.0 ≤ last_minute
        → (max 0 c.line.0 ≤ d.line.0) × ((least 0 (if b then c.start.0 ∷ [] else []) ≤ d.start.0) × ((least 0 (floor_after d.start.0 (if b then c.start.0 ∷ [] else [])) ≤ d.end.0) × Unit {0}))
        → 2880 * c.line.0 + c.start.0 < 2880 * d.line.0 + d.start.0
    go true e x (a, (b, z)) = let q = eqb-true d.line.0 c.line.0 e in omega arith
    go false e x (a, (b, z)) = let q = eqb-false d.line.0 c.line.0 e in omega arith

pub closure_order : Order closure_number floor_by closure_numbers closure_ok low_start
unfolding closure_ok
closure_order = record { lows = λ c t. search parts; over = closures_over; under = closures_under }

-- the parts of the format

pub station_order : Order station_number (λ r. station_number r ∷ []) station_numbers station_row_ok (λ r. true)
unfolding station_numbers
station_order = by_first station_number station_more station_row_ok

pub line_order : (form : NetworkForm) → Order line_number (λ r. line_number r ∷ []) (line_numbers form) (line_fits form) (λ r. true)
unfolding line_numbers
line_order form = by_first line_number (line_more form) (line_fits form)

abbrev pub StationFits : List ℕ → StationRow → Type 0
StationFits = RowFits station_order

abbrev pub LineFits : NetworkForm → List ℕ → LineRow → Type 0
LineFits form = RowFits (line_order form)

abbrev pub ClosureFits : List ℕ → Closure → Type 0
ClosureFits = RowFits closure_order

abbrev pub StationsRise : List StationRow → Type 0
StationsRise ss = Rises station_number station_row_ok blank_station ss

abbrev pub LinesRise : NetworkForm → List LineRow → Type 0
LinesRise form ls = Rises line_number (line_fits form) blank_line ls

abbrev pub ClosuresRise : List Closure → Type 0
ClosuresRise cs = Rises closure_number closure_ok blank_closure cs

pub station_law : Entry station_entry station_numbers StationFits
unfolding station_entry station_numbers
station_law = record {
  walk = λ floor p x f. walks_fields station_fields (λ x. x) floor p x f.0 f.1;
  back = λ floor p ns x w.
      let (a, e, t, o, q) = fields_walk station_fields (λ x. x) floor p ns x w in
      rw (← q) (e, (t, o));
}

pub line_law : (form : NetworkForm) → Entry (line_fields form) (line_numbers form) (LineFits form)
unfolding line_fields line_numbers
line_law form = record {
  walk = λ floor p x f. walks_fields (line_row_fields form) (λ x. x) floor p x f.0 f.1;
  back = λ floor p ns x w.
      let (a, e, t, o, q) = fields_walk (line_row_fields form) (λ x. x) floor p ns x w in
      rw (← q) (e, (t, o));
}

pub closure_law : Entry closure_fields closure_numbers ClosureFits
unfolding closure_fields
closure_law = record {
  walk = λ floor p x f. walks_fields closure_row_fields (λ x. x) floor p x f.0 f.1;
  back = λ floor p ns x w.
      let (a, e, t, o, q) = fields_walk closure_row_fields (λ x. x) floor p ns x w in
      rw (← q) (e, (t, o));
}

pub walks_stations : (p : ℕ) (ss : List StationRow) → StationsRise ss → walks (stations_format (length ss)) p (flat_map station_numbers ss) ss
unfolding stations_format station_floor
walks_stations p ss r =
    walks_plain station_entry station_numbers station_floor StationFits station_law ss (0 ∷ []) p
    (rising_chain station_order blank_station ss tt r)

pub stations_walk : (k p : ℕ) (ns : List ℕ) (ss : List StationRow) → walks (stations_format k) p ns ss → (ns ≡ flat_map station_numbers ss) × StationsRise ss × (length ss ≡ k)
unfolding stations_format station_floor
stations_walk k p ns ss w =
    let (x, c, l) = plain_walks station_entry station_numbers station_floor StationFits station_law k (0 ∷ []) p ns ss w in
    (x, chain_rising station_order blank_station ss tt c, l)

-- lines with their places
abbrev pub line_places : NetworkForm → ℕ → List LineRow → List (Placed LineRow)
line_places form p ls = values (line_numbers form) (λ p x. record { place = p; entry = x }) p ls

abbrev pub rows_of : List (Placed LineRow) → List LineRow
rows_of ls = map (λ (l : Placed LineRow). l.entry) ls

pub walks_lines : (form : NetworkForm) (p : ℕ) (ls : List LineRow) → LinesRise form ls → walks (lines_format form (length ls)) p (flat_map (line_numbers form) ls) (line_places form p ls)
unfolding lines_format line_floor line_entry
walks_lines form p ls r =
    walks_places (line_fields form) (line_numbers form) (λ r. line_number r ∷ []) (LineFits form) (line_law form) ls (0 ∷ []) p
    (rising_chain (line_order form) blank_line ls tt r)

pub lines_walk : (form : NetworkForm) (k p : ℕ) (ns : List ℕ) (ls : List (Placed LineRow)) → walks (lines_format form k) p ns ls
    → (ns ≡ flat_map (line_numbers form) (rows_of ls)) × LinesRise form (rows_of ls) × (length ls ≡ k)
unfolding lines_format line_floor line_entry
lines_walk form k p ns ls w =
    let (x, c, l) = places_walk (line_fields form) (line_numbers form) (λ r. line_number r ∷ []) (LineFits form) (line_law form) k (0 ∷ []) p ns ls w in
    (x, chain_rising (line_order form) blank_line (rows_of ls) tt c, l)

-- closures with their places
abbrev pub closure_places : ℕ → List Closure → List (Placed Closure)
closure_places p cs = values closure_numbers (λ p x. record { place = p; entry = x }) p cs

abbrev pub closures_of : List (Placed Closure) → List Closure
closures_of cs = map (λ (c : Placed Closure). c.entry) cs

pub walks_closures : (p : ℕ) (cs : List Closure) → ClosuresRise cs → walks (closures_format (length cs)) p (flat_map closure_numbers cs) (closure_places p cs)
unfolding closures_format closure_floor closure_entry
walks_closures p cs r = walks_places closure_fields closure_numbers floor_by ClosureFits closure_law cs (0 ∷ 0 ∷ []) p (rising_chain closure_order blank_closure cs tt r)

pub closures_walk : (k p : ℕ) (ns : List ℕ) (cs : List (Placed Closure)) → walks (closures_format k) p ns cs
    → (ns ≡ flat_map closure_numbers (closures_of cs)) × ClosuresRise (closures_of cs) × (length cs ≡ k)
unfolding closures_format closure_floor closure_entry
closures_walk k p ns cs w =
    let (x, c, l) = places_walk closure_fields closure_numbers floor_by ClosureFits closure_law k (0 ∷ 0 ∷ []) p ns cs w in
    (x, chain_rising closure_order blank_closure (closures_of cs) tt c, l)

-- the whole format

-- the numbers of a network's rows, from the closures, the headway and the stations on
abbrev closure_part : Rows → List ℕ
closure_part x = length x.closures ∷ flat_map closure_numbers x.closures

abbrev headway_on : NetworkForm → Rows → List ℕ
headway_on form x = x.headway ∷ length x.lines ∷ (flat_map (line_numbers form) x.lines ++ closure_part x)

abbrev pub rows_numbers : NetworkForm → Rows → List ℕ
rows_numbers form x = length x.stations ∷ (flat_map station_numbers x.stations ++ headway_on form x)

pub record RowsIn (form : NetworkForm) (x : Rows) : Type 0 where
  pub station_count : InRange 1 16 (length x.stations)
  pub stations : StationsRise x.stations
  pub headway : InRange 1 30 x.headway
  pub line_count : InRange 0 32 (length x.lines)
  pub lines : LinesRise form x.lines
  pub closure_count : InRange 0 32 (length x.closures)
  pub closures : ClosuresRise x.closures

-- where the lines start, and the closures, and the rows listed from a place on
abbrev pub lines_at : ℕ → Rows → ℕ
lines_at p x = p + width (length x.stations) + span (flat_map station_numbers x.stations) + width x.headway + width (length x.lines)

abbrev pub closures_at : NetworkForm → ℕ → Rows → ℕ
closures_at form p x = lines_at p x + span (flat_map (line_numbers form) x.lines) + width (length x.closures)

abbrev pub listed_at : NetworkForm → ℕ → Rows → Listed
listed_at form p x = record {
  stations = x.stations;
  headway = x.headway;
  lines = line_places form (lines_at p x) x.lines;
  closures = closure_places (closures_at form p x) x.closures;
}

pub walks_network : (form : NetworkForm) (p : ℕ) (x : Rows) → RowsIn form x → walks (network_format_as form) p (rows_numbers form x) (listed_at form p x)
unfolding walks network_format_as stations_part headway_part count_part lines_part closure_count_part closures_part
walks_network form p x r =
    let ss = x.stations in
    let h = x.headway in
    let ls = x.lines in
    let cs = x.closures in
    let places = line_places form (lines_at p x) ls in
    let closed = walks_made {B = Listed} (λ cs. record { stations = ss; headway = h; lines = places; closures = cs }) (closures_format (length cs)) (closures_at form p x) (flat_map closure_numbers cs) _
    (walks_closures (closures_at form p x) cs r.closures) in
    let lined = walks_then (lines_format form (length ls)) (λ ls. closure_count_part ss h ls) (lines_at p x) (flat_map (line_numbers form) ls) (closure_part x) places _
    (walks_lines form (lines_at p x) ls r.lines) (r.closure_count, closed) in (
      r.station_count,
      walks_then (stations_format (length ss)) (λ ss. headway_part form ss) (p + width (length ss)) (flat_map station_numbers ss) (headway_on form x) ss _
          (walks_stations (p + width (length ss)) ss r.stations) (r.headway, (r.line_count, lined)),
    )

-- what the numbers behind the lines tell
record Behind (x : Listed) (ss : List StationRow) (h : ℕ) (ls : List (Placed LineRow)) (ns : List ℕ) : Type 0 where
  same : record { stations = ss; headway = h; lines = ls; closures = x.closures } ≡ x
  numbers : ns ≡ length (closures_of x.closures) ∷ flat_map closure_numbers (closures_of x.closures)
  count : InRange 0 32 (length (closures_of x.closures))
  rise : ClosuresRise (closures_of x.closures)

closure_count_walks : (x : Listed) (ss : List StationRow) (h : ℕ) (ls : List (Placed LineRow)) (p : ℕ) (ns : List ℕ) → walks (closure_count_part ss h ls) p ns x → Behind x ss h ls ns
unfolding walks closure_count_part closures_part
closure_count_walks x ss h ls p [] w = absurd w
closure_count_walks x ss h ls p (m ∷ ns) (a, w) =
    let (cs, v, e) = made_walks (λ cs. record { stations = ss; headway = h; lines = ls; closures = cs }) (closures_format m) (p + width m) ns x w in
    let (y, r, l) = closures_walk m (p + width m) ns cs v in
    let z : length (closures_of cs) ≡ m = length-map cs (λ c. c.entry) ∙ l in
    rw (← e) (record { same = refl; numbers = ap₂ (λ (m : ℕ) (l : List ℕ). m ∷ l) (sym z) y; count = rw z a; rise = r })

pub network_walks : (form : NetworkForm) (p : ℕ) (ns : List ℕ) (x : Listed) → walks (network_format_as form) p ns x
    → (ns ≡ rows_numbers form (rows_listed x)) × RowsIn form (rows_listed x)
unfolding walks network_format_as stations_part headway_part count_part lines_part rows_listed
network_walks form p [] x w = absurd w
network_walks form p (k ∷ ns) x (a, w) =
    let s = then_walks (stations_format k) (λ ss. headway_part form ss) (p + width k) ns x w in
    let (e, r, l) = stations_walk k (p + width k) s.before s.value s.first in
    let (q, u, h, c, m, i, t) = later s.value (p + width k + span s.before) s.behind s.second in
    let y : k ≡ length x.stations = sym l ∙ ap length q in (
      ap₂ (λ (k : ℕ) (l : List ℕ). k ∷ l) y (s.whole ∙ ap₂ ◌++◌ (e ∙ ap (flat_map station_numbers) q) u),
      record { station_count = subst (InRange 1 16) y a; stations = subst StationsRise q r; headway = h; line_count = c; lines = m; closure_count = i; closures = t },
    )
  where
    later : (ss : List StationRow) (p : ℕ) (ns : List ℕ) → walks (headway_part form ss) p ns x
        → (ss ≡ x.stations) × (ns ≡ headway_on form (rows_listed x))
        × InRange 1 30 x.headway × InRange 0 32 (length (rows_of x.lines)) × LinesRise form (rows_of x.lines)
        × InRange 0 32 (length (closures_of x.closures)) × ClosuresRise (closures_of x.closures)
    later ss p [] w = absurd w
    later ss p (h ∷ []) w = absurd w.1
    later ss p (h ∷ m ∷ ns) (b, (c, w)) =
        let s = then_walks (lines_format form m) (λ ls. closure_count_part ss h ls) (p + width h + width m) ns x w in
        let (y, r, l) = lines_walk form m (p + width h + width m) s.before s.value s.first in
        let d = closure_count_walks x ss h s.value (p + width h + width m + span s.before) s.behind s.second in
        let z : length (rows_of s.value) ≡ m = length-map s.value (λ l. l.entry) ∙ l in
        let lines : s.value ≡ x.lines = ap (λ (x : Listed). x.lines) d.same in
        let headway : h ≡ x.headway = ap (λ (x : Listed). x.headway) d.same in (
          ap (λ (x : Listed). x.stations) d.same,
          ap₂ (λ (h : ℕ) (l : List ℕ). h ∷ l) headway (ap₂ (λ (m : ℕ) (l : List ℕ). m ∷ l) (sym z ∙ ap (λ (ls : List (Placed LineRow)). length (rows_of ls)) lines)
              (s.whole ∙ ap₂ ◌++◌ (y ∙ ap (λ (ls : List (Placed LineRow)). flat_map (line_numbers form) (rows_of ls)) lines) d.numbers)),
          subst (InRange 1 30) headway b,
          subst (λ (ls : List (Placed LineRow)). InRange 0 32 (length (rows_of ls))) lines (rw z c),
          subst (λ (ls : List (Placed LineRow)). LinesRise form (rows_of ls)) lines r,
          d.count,
          d.rise,
        )
