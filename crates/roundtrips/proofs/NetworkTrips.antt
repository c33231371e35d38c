-- Networks and the input of `shift` read back, and only the written file reads to them. A network whose unused rows are
-- blank is that of its rows in use; the rows that walk the format are those of a good network once every line joins two
-- listed stations. Assumes nothing.
use Prim.Native.Nat.{ℕ, ◌+◌, ◌-◌, ◌*◌, ◌≤◌}
use mathlib.Core.Path.{◌≡◌, sym, ◌∙◌, ap, ap₂, subst}
use mathlib.Core.Bool.{Bool, not}
use mathlib.Core.List.{List, ◌++◌, map}
use Rattle.std.specs.Prelude.{None}
use native.Mathlib.Omega.{arith}
use lib.Dec.{T, ltb, leb, leb→le, lt→ltb}
use lib.ListN.{length, replicate}
use lib.Seq.{take-append_seam}
use Rattle.base.specs.Lists.{every, first, rising}
use Rattle.base.proofs.Tests.{T_true, both, parts, every_weaker, every_map}
use Rattle.base.proofs.Sorted.{smaller, rising_map, two_map}
use Rattle.numbers.specs.Numbers.{width}
use Rattle.railway.specs.Edits.{edit_ok}
use Rattle.network.specs.Networks.{blank_station, blank_line, blank_closure, station_rows, line_rows, closure_rows, stations_of, station_row_ok, line_row_ok, closure_ok, closure_number, stations_rise, lines_rise, closures_rise}
use Rattle.network.specs.Networks.{stations_in_range, lines_in_range, closures_in_range, network_in_range, ends_listed, lines_joined, ends_after, closures_end, line_listed, closures_listed, network_refusal}
use Rattle.network.proofs.NetworkLaws.{NetworkFacts, network_facts}
use Rattle.timetable.specs.declared.NetworkForm.{NetworkForm}
use Rattle.timetable.specs.Formats.{Outcome, accepted, behind, ◌and_then◌, done, read_file, bytes_of, Placed}
use Rattle.timetable.specs.FileForms.{newest_form}
use Rattle.timetable.specs.NetworkFile.{newest, line_numbers, closure_numbers, Rows, Listed, network_format_as, network_format, network_with, rows_in, rows_listed, network_of, unended, unjoined, unlisted, network_fault}
use Rattle.timetable.specs.NetworkFile.{unless_fault, read_network_as, read_network, network_numbers_as, network_numbers}
use Rattle.timetable.specs.EditsFile.{edits_format, edits_numbers, Shift, Input, shift_format, read_shift}
use Rattle.roundtrips.specs.Types.{Edit, LineRow, Closure, Network}
use Rattle.roundtrips.proofs.Walks.{walks}
use Rattle.roundtrips.specs.RoundTrips.{Bytes, UnusedBlank, ReadAs, NetworkRoundTrip, ShiftRead, ShiftRoundTrip}
use Rattle.roundtrips.proofs.ListLaws.{first_none, none_first}
use Rattle.timetable.proofs.OutcomeLaws.{behind_taken, fault_free, fault_taken, Faultless, fault_none, none_fault}
use Rattle.roundtrips.proofs.WalkLaws.{span, walks_then, then_walks, walks_made, made_walks, file_read, file_walks}
use Rattle.roundtrips.proofs.RowsWalked.{in_test, test_in, most_test, test_most, values_entries}
use Rattle.roundtrips.proofs.NetworkWalks.{station_number, line_number, line_fits, fits_ok, rows_of, rows_numbers, closures_of, RowsIn, lines_at, closures_at, listed_at, walks_network, network_walks}
use Rattle.roundtrips.proofs.EditTrips.{edits_said_newest, walks_edits_format, edits_format_walks}

-- the rows of a network made of rows
module _ (x : Rows) where
  pub rows_stations : station_rows (network_with x) ≡ x.stations
  unfolding station_rows network_with
  rows_stations = take-append_seam x.stations (replicate (16 - length x.stations) blank_station)

  pub rows_lines : line_rows (network_with x) ≡ x.lines
  unfolding line_rows network_with
  rows_lines = take-append_seam x.lines (replicate (32 - length x.lines) blank_line)

  pub rows_closures : closure_rows (network_with x) ≡ x.closures
  unfolding closure_rows network_with
  rows_closures = take-append_seam x.closures (replicate (32 - length x.closures) blank_closure)

  pub rows_back : rows_in (network_with x) ≡ x
  unfolding rows_in network_with
  rows_back = rw (rows_stations, rows_lines, rows_closures)

  pub numbers_with : (form : NetworkForm) → network_numbers_as form (network_with x) ≡ rows_numbers form x
  unfolding network_numbers_as network_with
  numbers_with form = rw (rows_stations, rows_lines, rows_closures)

  pub blank_with : UnusedBlank (network_with x)
  blank_with = ap network_with rows_back

  pub range_with : (form : NetworkForm) → RowsIn form x → T (network_in_range (network_with x))
  unfolding network_in_range stations_in_range lines_in_range closures_in_range stations_rise lines_rise closures_rise network_with
  range_with form r =
      let s₁ = in_test 1 16 (length x.stations) r.station_count in
      let s₂ : T (every station_row_ok (station_rows (network_with x))) = rw rows_stations r.stations.good in
      let s₃ : T (rising (map (λ r. r.station.0) (station_rows (network_with x)))) = rw (rows_stations, rising_map station_number x.stations) r.stations.order in
      let h₁ = in_test 1 30 x.headway r.headway in
      let l₁ = most_test 32 (length x.lines) r.line_count in
      let l₂ : T (every line_row_ok (line_rows (network_with x))) = rw rows_lines (every_weaker (line_fits form) line_row_ok (fits_ok form) x.lines r.lines.good) in
      let l₃ : T (rising (map (λ r. r.line.0) (line_rows (network_with x)))) = rw (rows_lines, rising_map line_number x.lines) r.lines.order in
      let c₁ = most_test 32 (length x.closures) r.closure_count in
      let c₂ : T (every closure_ok (closure_rows (network_with x))) = rw rows_closures r.closures.good in
      let c₃ : T (rising (map closure_number (closure_rows (network_with x)))) = rw (rows_closures, rising_map closure_number x.closures) r.closures.order in
      search both

-- a listing without a fault is a good network's

refusal_none : (n : Network) → T (network_in_range n) → T (closures_end n) → T (lines_joined n) → T (closures_listed n) → network_refusal n ≡ 0
unfolding network_refusal
refusal_none n r e j l = rw (T_true (network_in_range n) r, T_true (closures_end n) e, T_true (lines_joined n) j, T_true (closures_listed n) l)

-- every entry passes just if the first that does not is none
module _ {A : Type 0} (ok : A → Bool) (es : List (Placed A)) where
  passing : first (λ e. not (ok e.entry)) es ≡ None → T (every ok (map (λ (e : Placed A). e.entry) es))
  passing e = rw (every_map ok (λ (e : Placed A). e.entry) es) (first_none (λ (e : Placed A). ok e.entry) es e)

  none_fails : T (every ok (map (λ (e : Placed A). e.entry) es)) → first (λ e. not (ok e.entry)) es ≡ None
  none_fails t = none_first (λ (e : Placed A). ok e.entry) es (rw (every_map ok (λ (e : Placed A). e.entry) es) at t)

module _ (x : Listed) where
  joined : unjoined x ≡ None → T (lines_joined (network_of x))
  unfolding unjoined lines_joined network_of rows_listed
  joined e = rw (rows_lines (rows_listed x)) (passing (ends_listed (network_of x)) x.lines e)

  ended : unended x ≡ None → T (closures_end (network_of x))
  unfolding unended closures_end network_of rows_listed
  ended e = rw (rows_closures (rows_listed x)) (passing ends_after x.closures e)

  known : unlisted x ≡ None → T (closures_listed (network_of x))
  unfolding unlisted closures_listed network_of rows_listed
  known e = rw (rows_closures (rows_listed x)) (passing (λ c. line_listed (network_of x) c.line) x.closures e)

  pub listed_good : (form : NetworkForm) → RowsIn form (rows_listed x) → Faultless x → network_refusal (network_of x) ≡ 0
  unfolding network_of
  listed_good form r f =
      refusal_none (network_of x) (range_with (rows_listed x) form r) (ended f.ended) (joined f.joined) (known f.listed)

  pub of_numbers : (form : NetworkForm) → network_numbers_as form (network_of x) ≡ rows_numbers form (rows_listed x)
  unfolding network_of
  of_numbers form = numbers_with (rows_listed x) form

  pub of_blank : UnusedBlank (network_of x)
  unfolding network_of
  of_blank = blank_with (rows_listed x)

-- the rows of a good network

closure_above : (c : Closure) → T (closure_ok c) → T (ltb (closure_number blank_closure) (closure_number c))
unfolding closure_ok closure_number
closure_above c t = let l : T (leb 1 c.line.0) = search parts in lt→ltb 0 (2880 * c.line.0 + c.start.0) (omega (arith, leb→le 1 c.line.0 l))

module _ (n : Network) (g : network_refusal n ≡ 0) (u : UnusedBlank n) where
  facts : NetworkFacts n
  facts = network_facts n g

  station_many : length (station_rows n) ≡ n.stationcount
  unfolding network_with rows_in
  station_many = ap (λ (m : Network). m.stationcount) u

  line_many : length (line_rows n) ≡ n.linecount
  unfolding network_with rows_in
  line_many = ap (λ (m : Network). m.linecount) u

  closure_many : length (closure_rows n) ≡ n.closurecount
  unfolding network_with rows_in
  closure_many = ap (λ (m : Network). m.closurecount) u

  pub rows_good : RowsIn newest (rows_in n)
  unfolding stations_of station_row_ok line_row_ok rows_in
  rows_good = record {
    station_count = rw station_many (test_in 1 16 n.stationcount (omega arith) facts.station_count);
    stations = record {
      good = facts.station_rows_ok;
      above = every_weaker station_row_ok (λ r. ltb 0 (station_number r))
          (λ r t. lt→ltb 0 (station_number r) (leb→le 1 (station_number r) (search parts))) (station_rows n) facts.station_rows_ok;
      order = rw (two_map (smaller (λ s. s.0)) (λ r. r.station) (station_rows n)) at facts.stations_rise;
    };
    headway = test_in 1 30 n.headway (omega arith) facts.headway;
    line_count = rw line_many (test_most 32 n.linecount (omega arith) facts.line_count);
    lines = record {
      good = facts.line_rows_ok;
      above = every_weaker line_row_ok (λ r. ltb 0 (line_number r))
          (λ r t. lt→ltb 0 (line_number r) (leb→le 1 (line_number r) (search parts))) (line_rows n) facts.line_rows_ok;
      order = facts.lines_rise;
    };
    closure_count = rw closure_many (test_most 32 n.closurecount (omega arith) facts.closure_count);
    closures = record {
      good = facts.closures_ok;
      above = every_weaker closure_ok (λ c. ltb (closure_number blank_closure) (closure_number c)) closure_above (closure_rows n) facts.closures_ok;
      order = facts.closures_rise;
    };
  }

  pub rows_written : network_numbers n ≡ rows_numbers newest (rows_in n)
  unfolding network_numbers
  rows_written = ap network_numbers (sym u) ∙ numbers_with (rows_in n) newest

  -- what the format gives from a place on
  abbrev pub listing : ℕ → Listed
  listing p = listed_at newest p (rows_in n)

  listing_rows : (p : ℕ) → rows_listed (listing p) ≡ rows_in n
  unfolding rows_listed rows_in
  listing_rows p =
      ap₂ (λ (ls : List LineRow) (cs : List Closure). record { stations = station_rows n; headway = n.headway; lines = ls; closures = cs })
      (values_entries (line_numbers newest) (lines_at p (rows_in n)) (line_rows n)) (values_entries closure_numbers (closures_at newest p (rows_in n)) (closure_rows n))

  pub listing_network : (p : ℕ) → network_of (listing p) ≡ n
  unfolding network_of
  listing_network p = ap network_with (listing_rows p) ∙ u

  -- what every row of the network passes, every row of the listing does
  module _ (p : ℕ) where
    listed_lines : rows_of (listing p).lines ≡ line_rows n
    unfolding rows_listed rows_in
    listed_lines = ap (λ (x : Rows). x.lines) (listing_rows p)

    listed_closures : closures_of (listing p).closures ≡ closure_rows n
    unfolding rows_listed rows_in
    listed_closures = ap (λ (x : Rows). x.closures) (listing_rows p)

    pub listing_faultless : Faultless (listing p)
    unfolding unended unjoined unlisted
    listing_faultless = record {
      ended = none_fails ends_after (listing p).closures (rw listed_closures facts.closures_end);
      joined = none_fails (ends_listed (network_of (listing p))) (listing p).lines (rw (listed_lines, listing_network p) facts.ends_listed);
      listed = none_fails (λ c. line_listed (network_of (listing p)) c.line) (listing p).closures (rw (listed_closures, listing_network p) facts.closures_listed);
    }

  pub walks_listing : (p : ℕ) → walks network_format p (network_numbers n) (listing p)
  unfolding network_format
  walks_listing p = rw rows_written (walks_network newest p (rows_in n) rows_good)

-- the network file

-- what is read in a form is what is written in that form
pub listed_as : (form : NetworkForm) (file : List ℕ) (n : Network) (next : ℕ) → Bytes file → read_network_as form file ≡ accepted n next
    → (x : Listed) × (network_of x ≡ n) × ReadAs form file (network_of x) next × RowsIn form (rows_listed x)
unfolding read_network_as behind
listed_as form file n next s e =
    let (x, p, r, v) = behind_taken (read_file (network_format_as form) file) (λ x next. unless_fault (network_fault x) (accepted (network_of x) next)) n next e in
    let (j, t) = fault_taken (network_fault x) (accepted (network_of x) p) n next v in
    let y : network_of x ≡ n = cc in
    let z : p ≡ next = cc in
    let w = file_walks (network_format_as form) file x p s r in
    let (k, i) = network_walks form 0 w.numbers x w.walk in
    let r : ReadAs form file (network_of x) next = record {
      file_is = w.bytes ∙ ap bytes_of (k ∙ sym (of_numbers x form));
      end = sym z ∙ w.end ∙ ap length (sym w.bytes);
      good = listed_good x form i (none_fault x j);
      unused = of_blank x;
    } in
    (x, y, r, i)

pub read_as : (form : NetworkForm) (file : List ℕ) (n : Network) (next : ℕ) → Bytes file → read_network_as form file ≡ accepted n next → ReadAs form file n next
read_as form file n next s e = let (x, y, r, i) = listed_as form file n next s e in subst (λ (n : Network). ReadAs form file n next) y r

pub network_trip : NetworkRoundTrip
unfolding read_network read_network_as behind network_format network_numbers
network_trip = record {
  back = λ n g u.
      let e = file_read network_format (network_numbers n) (listing n g u 0) (walks_listing n g u 0) in
      ap (λ (o : Outcome Listed). behind o (λ x next. unless_fault (network_fault x) (accepted (network_of x) next))) e
      ∙ fault_free (network_fault (listing n g u 0)) (accepted (network_of (listing n g u 0)) (span (network_numbers n))) (fault_none (listing n g u 0) (listing_faultless n g u 0))
      ∙ ap (λ (m : Network). accepted m (span (network_numbers n))) (listing_network n g u 0);
  only = λ file n next s e. read_as newest file n next s e;
}

-- the same of the network at the head of a longer file, in the newest form
pub head_walks : (p : ℕ) (ns : List ℕ) (x : Listed) → walks network_format p ns x → (ns ≡ network_numbers (network_of x)) × RowsIn newest (rows_listed x)
unfolding network_format network_numbers
head_walks p ns x w = let (k, i) = network_walks newest p ns x w in (k ∙ sym (of_numbers x newest), i)

-- the input of `shift`

-- the value of the format of `shift`
abbrev input : Listed → Placed (List Edit) → Input
input x es = record { listed = x; edits = es }

abbrev shift_of : Input → Shift
shift_of x = record { network = network_of x.listed; edits = x.edits }

pub walks_shift : (n : Network) (g : network_refusal n ≡ 0) (u : UnusedBlank n) (es : List Edit) → length es ≤ 1000 → T (every edit_ok es)
    → walks shift_format 0 (network_numbers n ++ edits_numbers newest_form es)
    (input (listing n g u 0) (record { place = 0 + span (network_numbers n) + width (length es); entry = es }))
unfolding shift_format
walks_shift n g u es h t =
    let x = listing n g u 0 in
    walks_then network_format (λ x. edits_format newest_form and_then (λ es. done (input x es))) 0 (network_numbers n) (edits_numbers newest_form es) x _ (walks_listing n g u 0)
    (walks_made (input x) (edits_format newest_form) (0 + span (network_numbers n)) (edits_numbers newest_form es) _ (walks_edits_format newest_form (0 + span (network_numbers n)) es h t (edits_said_newest es)))

pub shift_trip : ShiftRoundTrip
unfolding read_shift behind shift_format
shift_trip = record {
  back = λ n es g u h t.
      let v = input (listing n g u 0) (record { place = 0 + span (network_numbers n) + width (length es); entry = es }) in
      let e = file_read shift_format (network_numbers n ++ edits_numbers newest_form es) v (walks_shift n g u es h t) in
      let z : 0 + span (network_numbers n) + width (length es) ≡ span (network_numbers n) + width (length es) = omega arith in
      ap (λ (o : Outcome Input). behind o (λ x next. unless_fault (network_fault x.listed) (accepted (shift_of x) next))) e
      ∙ fault_free (network_fault (listing n g u 0)) (accepted (shift_of v) (span (network_numbers n ++ edits_numbers newest_form es))) (fault_none (listing n g u 0) (listing_faultless n g u 0))
      ∙ ap₂ (λ (m : Network) (k : ℕ). accepted (record { network = m; edits = record { place = k; entry = es } }) (span (network_numbers n ++ edits_numbers newest_form es))) (listing_network n g u 0) z;
  only = λ file y next s e.
      let (x, p, r, v) = behind_taken (read_file shift_format file) (λ x next. unless_fault (network_fault x.listed) (accepted (shift_of x) next)) y next e in
      let (j, t) = fault_taken (network_fault x.listed) (accepted (shift_of x) p) y next v in
      let f : shift_of x ≡ y = cc in
      let z : p ≡ next = cc in
      let w = file_walks shift_format file x p s r in
      subst (λ (y : Shift). ShiftRead file y next) f (taken file x next w.numbers w.walk w.bytes (sym z ∙ w.end) (none_fault x.listed j));
}
  where
    taken : (file : List ℕ) (x : Input) (next : ℕ) (ns : List ℕ) → walks shift_format 0 ns x → file ≡ bytes_of ns → next ≡ span ns → Faultless x.listed
        → ShiftRead file (shift_of x) next
    taken file x next ns w b e j =
        let s = then_walks network_format (λ x. edits_format newest_form and_then (λ es. done (input x es))) 0 ns x w in
        let (es, v, q) = made_walks (input s.value) (edits_format newest_form) (0 + span s.before) s.behind x s.second in
        let (y, i) = head_walks 0 s.before s.value s.first in
        let (l, h, t, u, m) = edits_format_walks newest_form (0 + span s.before) s.behind es v in
        subst (λ (x : Input). ShiftRead file (shift_of x) next) q (record {
          file_is = b ∙ ap bytes_of (s.whole ∙ ap₂ ◌++◌ y l);
          end = e ∙ ap length (sym b);
          good = listed_good s.value newest i (subst (λ (x : Input). Faultless x.listed) (sym q) j);
          unused = of_blank s.value;
          few = h;
          edits_good = t;
          first = omega (arith, m, ap span y);
        })
