-- Rows of stations and lines: the formats as the code reads them, and what an answer says of many rows. Assumes
-- nothing.
use Prim.Native.Nat.{ℕ, zero, suc, ◌%◌, ◌<◌}
use mathlib.Core.Path.{◌≡◌, refl, sym, ◌∙◌, ap, ap₂}
use mathlib.Core.Bool.{Bool, true, false, not}
use mathlib.Core.List.{List, [], ◌∷◌, ◌++◌, map}
use native.Mathlib.Omega.{arith}
use lib.Dec.{T, leb, ltb, leb→le, ltb→lt}
use borrow.Author.Tests.{ne_eqb}
use lib.ListN.{length, get_or, length-map, get_or-map}
use Rattle.std.specs.Prelude.{Option, None, Some, Result, IsErrAnd}
use Rattle.std.specs.Option.{option_or}
use Rattle.std.specs.Prelude.{if◌then◌else◌}
use Rattle.std.proofs.lemmas.Result.{err_from_is_err_and}
use Rattle.base.specs.Lists.{first, every}
use Rattle.base.specs.RefusalNumbers.{number_of}
use Rattle.base.specs.declared.refusal.FileError.{FileError}
use Rattle.base.proofs.Tests.{every_head, every_tail}
use Rattle.network.specs.declared.StationRow.{StationRow}
use Rattle.network.specs.declared.LineRow.{LineRow}
use Rattle.network.specs.declared.Closure.{Closure}
use Rattle.network.specs.declared.Network.{Network}
use Rattle.network.specs.Networks.{blank_station, blank_line, blank_closure, station_rows, line_rows, stations_of, listed, ends_listed, line_row, line_listed}
use Rattle.timetable.specs.declared.Fault.{Fault}
use Rattle.timetable.specs.declared.NetworkForm.{NetworkForm}
use Rattle.timetable.specs.Formats.{Format, done, Outcome, accepted, refused, ◌and_then◌, field_at, read, Range, row, Placed}
use Rattle.timetable.specs.NetworkFile.{station_of, station_entry, station_floor, line_ranges, line_of, line_entry, line_floor, closure_entry, closure_floor, Listed, stations_format, lines_format, closures_format}
use Rattle.timetable.specs.NetworkFile.{closures_part, closure_count_part, lines_part, count_part, headway_part, stations_part, network_format_as, network_with, blank_network, rows_listed, network_of, unjoined, unlisted, fault_of, or_fault}
use Rattle.timetable.proofs.OutputLaws.{number_there}
use Rattle.fields.specs.between.Answers.{padded}
use Rattle.fields.proofs.EntryLaws.{row_above, row_bounded, made, unmade, field_on, field_stop, then_on, then_stop, entries_many}
use Rattle.network_files.specs.between.Rows.{above, as_bytes, line_with}
use Rattle.network_files.specs.between.Faults.{fault_told, fault_next}
use Rattle.network_files.specs.Answers.{Tells, before_lines, before_closures, lines_fault}

-- rows of any ranges

-- the first number may be 1, so that a row before it decides; and each number fits a byte
abbrev pub from_one : List Range → Bool
from_one [] = true
from_one (r ∷ rs) = leb r.lo 1

abbrev pub of_bytes : List Range → Bool
of_bytes rs = every (λ (r : Range). ltb r.hi 256) rs

above_row : (rs : List Range) (b : ℕ) → T (from_one rs) → row rs (b ∷ []) ≡ row (above b rs) []
unfolding above row
above_row [] b h = refl
above_row (r ∷ rs) b h = row_above r.lo r.hi rs b (omega (arith, leb→le r.lo 1 h))

above_last : (rs : List Range) (b : ℕ) → map (λ (r : Range). r.hi) (above b rs) ≡ map (λ (r : Range). r.hi) rs
unfolding above
above_last [] b = refl
above_last (r ∷ rs) b = refl

bytes_each : (rs : List Range) → T (of_bytes rs) → (i : ℕ) → get_or (map (λ (r : Range). r.hi) rs) i 0 < 256
bytes_each [] h i = omega arith
bytes_each (r ∷ rs) h zero = omega (arith, ltb→lt r.hi 256 (every_head (λ (x : Range). ltb x.hi 256) r rs h))
bytes_each (r ∷ rs) h (suc i) = bytes_each rs (every_tail (λ (x : Range). ltb x.hi 256) r rs h) i

-- numbers that fit bytes are kept
bytes_kept : (ns : List ℕ) → ((i : ℕ) → get_or ns i 0 < 256) → as_bytes ns ≡ ns
unfolding as_bytes
bytes_kept [] h = refl
bytes_kept (n ∷ ns) h = let e : n % 256 ≡ n = omega (arith, h 0) in rw (e, bytes_kept ns (λ i. h (suc i)))

pub as_bytes_at : (ns : List ℕ) (i : ℕ) → get_or (as_bytes ns) i 0 ≡ get_or ns i 0 % 256
unfolding as_bytes
as_bytes_at ns i = get_or-map (λ (n : ℕ). n % 256) ns i 0

-- what is made of a row that is read behind another
module _ {A : Type 0} (make : List ℕ → A) (rs : List Range) (low : T (from_one rs)) (small : T (of_bytes rs))
    (b : ℕ) (file : List ℕ) (at : ℕ) (l : List Range) (is : l ≡ above b rs) where
  raised : row rs (b ∷ []) ≡ row l []
  raised = above_row rs b low ∙ ap (λ (l : List Range). row l []) (sym is)

  pub row_made : (ns : List ℕ) (next : ℕ) → read (row l []) file at ≡ accepted ns next → (a : A) → a ≡ make (as_bytes ns)
      → accepted a next ≡ read (row rs (b ∷ []) and_then (λ ns. done (make ns))) file at
  row_made ns next e a p =
      let last = ap (map (λ (r : Range). r.hi)) is ∙ above_last rs b in
      let k = bytes_kept ns (λ i. omega (arith, row_bounded l [] file at ns next e i, ap (λ (hs : List ℕ). get_or hs i 0) last, bytes_each rs small i)) in
      ap (λ (x : A). accepted x next) (p ∙ ap make k)
      ∙ sym (ap (λ (f : Format (List ℕ)). read (f and_then (λ ns. done (make ns))) file at) raised ∙ made make (row l []) file at ns next e)

  pub row_unmade : (k p : ℕ) → read (row l []) file at ≡ refused k p → refused k p ≡ read (row rs (b ∷ []) and_then (λ ns. done (make ns))) file at
  row_unmade k p e =
      sym (ap (λ (f : Format (List ℕ)). read (f and_then (λ ns. done (make ns))) file at) raised ∙ unmade make (row l []) file at k p e)

-- the ranges of a line in every form
pub line_low : (form : NetworkForm) → T (from_one (line_ranges form))
unfolding line_ranges
line_low NetworkForm.OneTime = tt
line_low NetworkForm.TwoTimes = tt

pub line_small : (form : NetworkForm) → T (of_bytes (line_ranges form))
unfolding line_ranges every
line_small NetworkForm.OneTime = tt
line_small NetworkForm.TwoTimes = tt

-- a station and a line of numbers as bytes

pub station_bytes : (ns : List ℕ) (a b d : ℕ) → a ≡ get_or ns 0 0 % 256 → b ≡ get_or ns 1 0 % 256 → d ≡ get_or ns 2 0 % 256
    → ◌≡◌ {A = StationRow} (record { station = record { 0 = a }; area = record { 0 = b }; tracks = d }) (station_of (as_bytes ns))
unfolding station_of
station_bytes ns a b d p q r = rw (p, q, r, as_bytes_at ns 0, as_bytes_at ns 1, as_bytes_at ns 2)

pub line_bytes : (ns : List ℕ) (a b d e f g h : ℕ) → a ≡ get_or ns 0 0 % 256 → b ≡ get_or ns 1 0 % 256 → d ≡ get_or ns 2 0 % 256 → e ≡ get_or ns 3 0 % 256
    → f ≡ get_or ns 4 0 % 256 → g ≡ get_or ns 5 0 % 256 → h ≡ get_or ns 6 0 % 256
    → ◌≡◌ {A = LineRow} (record { line = record { 0 = a }; first = record { 0 = b }; second = record { 0 = d }; kind = e; passenger = f; freight = g; capacity = h }) (line_with ns)
unfolding line_with line_of
line_bytes ns a b d e f g h p q r s t u v =
    rw (p, q, r, s, t, u, v, as_bytes_at ns 0, as_bytes_at ns 1, as_bytes_at ns 2, as_bytes_at ns 3, as_bytes_at ns 4, as_bytes_at ns 5, as_bytes_at ns 6)

pub one_time : (ns : List ℕ)
    → line_with (get_or ns 0 0 ∷ get_or ns 1 0 ∷ get_or ns 2 0 ∷ get_or ns 3 0 ∷ get_or ns 4 0 ∷ get_or ns 4 0 ∷ get_or ns 5 0 ∷ []) ≡ line_of NetworkForm.OneTime (as_bytes ns)
unfolding line_with line_of
one_time ns = simp as_bytes_at

pub two_times : (ns : List ℕ) → line_with ns ≡ line_of NetworkForm.TwoTimes (as_bytes ns)
unfolding line_with
two_times ns = refl

-- the first fault, one entry more
module _ {A : Type 0} (k : ℕ) (Some-number : ¬ (k ≡ 0)) (ok : A → Bool) where
  abbrev faulty : Placed A → Bool
  faulty e = not (ok e.entry)

  pub fault_snoc : (es : List (Placed A)) (e : Placed A) → fault_next k (ok e.entry) e.place (fault_of k (first faulty es)) ≡ fault_of k (first faulty (es ++ (e ∷ [])))
  unfolding fault_of fault_next first
  fault_snoc [] e = go (ok e.entry)
    where
      go : (b : Bool) → (if b then record { number = 0; place = 0 } else record { number = k; place = e.place }) ≡ fault_of {A = A} k (if not b then Some e else None)
      go true = refl
      go false = refl
  fault_snoc (x ∷ es) e = go (ok x.entry) (fault_snoc es e)
    where
      go : (b : Bool) → fault_next k (ok e.entry) e.place (fault_of k (first faulty es)) ≡ fault_of k (first faulty (es ++ (e ∷ [])))
          → fault_next k (ok e.entry) e.place (fault_of k (if not b then Some x else first faulty es)) ≡ fault_of k (if not b then Some x else first faulty (es ++ (e ∷ [])))
      go true ih = ih
      go false ih = rw (ne_eqb k 0 Some-number)

-- what an exit tells
pub tells_refused : {A B : Type 0} (Is : A → B → Type 0) (r : Result (A × ℕ) FileError) (o : Outcome B) (e : FileError) → IsErrAnd r (λ y. y ≡ e)
    → o ≡ refused (number_of e.refusal) e.place → Tells Is r o
tells_refused Is r o e h q = let p = err_from_is_err_and r h in rw (p.1, p.2) q

-- how many rows are read
pub stations_many : (file : List ℕ) (at k : ℕ) (ss : List StationRow) (next : ℕ) → read (stations_format k) file at ≡ accepted ss next → length ss ≡ k
unfolding stations_format
stations_many file at k ss next o = entries_many station_entry station_floor k (0 ∷ []) file at ss next o

pub lines_many : (form : NetworkForm) (file : List ℕ) (at m : ℕ) (ls : List (Placed LineRow)) (next : ℕ) → read (lines_format form m) file at ≡ accepted ls next → length ls ≡ m
unfolding lines_format
lines_many form file at m ls next o = entries_many (line_entry form) line_floor m (0 ∷ []) file at ls next o

pub closures_many : (file : List ℕ) (at m : ℕ) (cs : List (Placed Closure)) (next : ℕ) → read (closures_format m) file at ≡ accepted cs next → length cs ≡ m
unfolding closures_format
closures_many file at m cs next o = entries_many closure_entry closure_floor m (0 ∷ 0 ∷ []) file at cs next o

-- what is listed up to the closures
abbrev pub listed_with : List StationRow → ℕ → List (Placed LineRow) → List (Placed Closure) → Listed
listed_with ss h ls cs = record { stations = ss; headway = h; lines = ls; closures = cs }

-- lines are faulty alike whether lines and closures are known yet or not, and closures alike whether closures are
module _ (ss : List StationRow) (h : ℕ) (ls : List (Placed LineRow)) (cs : List (Placed Closure)) where
  pub lines_alike : lines_fault ss h ls ≡ fault_of 4 (unjoined (listed_with ss h ls cs))
  unfolding lines_fault before_lines network_with rows_listed network_of unjoined ends_listed listed stations_of station_rows
  lines_alike = refl

  pub closures_alike : fault_of 4 (first (λ c. not (line_listed (before_closures ss h ls) c.entry.line)) cs) ≡ fault_of 4 (unlisted (listed_with ss h ls cs))
  unfolding before_closures network_with rows_listed network_of unlisted line_listed line_row line_rows
  closures_alike = refl

-- a file read part by part: where a part is refused so is the whole, and behind an accepted part stands the next
module _ (form : NetworkForm) (file : List ℕ) where
  abbrev whole : Outcome Listed
  whole = read (network_format_as form) file 0

  pub count_stop : (j q : ℕ) → field_at 1 16 file 0 ≡ refused j q → whole ≡ refused j q
  unfolding network_format_as
  count_stop j q e = field_stop 1 16 (λ k. stations_part form k) file 0 j q e

  module _ (k p₁ : ℕ) (e₁ : field_at 1 16 file 0 ≡ accepted k p₁) where
    on₁ : whole ≡ read (stations_part form k) file p₁
    unfolding network_format_as
    on₁ = field_on 1 16 (λ k. stations_part form k) file 0 k p₁ e₁

    pub stations_stop : (j q : ℕ) → read (stations_format k) file p₁ ≡ refused j q → whole ≡ refused j q
    unfolding stations_part
    stations_stop j q e = on₁ ∙ then_stop (stations_format k) (λ ss. headway_part form ss) file p₁ j q e

    module _ (ss : List StationRow) (p₂ : ℕ) (e₂ : read (stations_format k) file p₁ ≡ accepted ss p₂) where
      on₂ : whole ≡ read (headway_part form ss) file p₂
      unfolding stations_part
      on₂ = on₁ ∙ then_on (stations_format k) (λ ss. headway_part form ss) file p₁ ss p₂ e₂

      pub headway_stop : (j q : ℕ) → field_at 1 30 file p₂ ≡ refused j q → whole ≡ refused j q
      unfolding headway_part
      headway_stop j q e = on₂ ∙ field_stop 1 30 (λ h. count_part form ss h) file p₂ j q e

      module _ (h p₃ : ℕ) (e₃ : field_at 1 30 file p₂ ≡ accepted h p₃) where
        on₃ : whole ≡ read (count_part form ss h) file p₃
        unfolding headway_part
        on₃ = on₂ ∙ field_on 1 30 (λ h. count_part form ss h) file p₂ h p₃ e₃

        pub lines_count_stop : (j q : ℕ) → field_at 0 32 file p₃ ≡ refused j q → whole ≡ refused j q
        unfolding count_part
        lines_count_stop j q e = on₃ ∙ field_stop 0 32 (λ m. lines_part form ss h m) file p₃ j q e

        module _ (m p₄ : ℕ) (e₄ : field_at 0 32 file p₃ ≡ accepted m p₄) where
          on₄ : whole ≡ read (lines_part form ss h m) file p₄
          unfolding count_part
          on₄ = on₃ ∙ field_on 0 32 (λ m. lines_part form ss h m) file p₃ m p₄ e₄

          pub lines_stop : (j q : ℕ) → read (lines_format form m) file p₄ ≡ refused j q → whole ≡ refused j q
          unfolding lines_part
          lines_stop j q e = on₄ ∙ then_stop (lines_format form m) (λ ls. closure_count_part ss h ls) file p₄ j q e

          module _ (ls : List (Placed LineRow)) (p₅ : ℕ) (e₅ : read (lines_format form m) file p₄ ≡ accepted ls p₅) where
            on₅ : whole ≡ read (closure_count_part ss h ls) file p₅
            unfolding lines_part
            on₅ = on₄ ∙ then_on (lines_format form m) (λ ls. closure_count_part ss h ls) file p₄ ls p₅ e₅

            pub closures_count_stop : (j q : ℕ) → field_at 0 32 file p₅ ≡ refused j q → whole ≡ refused j q
            unfolding closure_count_part
            closures_count_stop j q e = on₅ ∙ field_stop 0 32 (λ i. closures_part ss h ls i) file p₅ j q e

            module _ (i p₆ : ℕ) (e₆ : field_at 0 32 file p₅ ≡ accepted i p₆) where
              on₆ : whole ≡ read (closures_part ss h ls i) file p₆
              unfolding closure_count_part
              on₆ = on₅ ∙ field_on 0 32 (λ i. closures_part ss h ls i) file p₅ i p₆ e₆

              pub closures_stop : (j q : ℕ) → read (closures_format i) file p₆ ≡ refused j q → whole ≡ refused j q
              unfolding closures_part
              closures_stop j q e = on₆ ∙ unmade {A = Listed} (λ (cs : List (Placed Closure)). listed_with ss h ls cs) (closures_format i) file p₆ j q e

              module _ (cs : List (Placed Closure)) (p₇ : ℕ) (e₇ : read (closures_format i) file p₆ ≡ accepted cs p₇) where
                pub all_read : whole ≡ accepted (listed_with ss h ls cs) p₇
                unfolding closures_part
                all_read = on₆ ∙ made {A = Listed} (listed_with ss h ls) (closures_format i) file p₆ cs p₇ e₇

-- the networks known on the way
module _ (ss : List StationRow) (h : ℕ) where
  pub stations_known : (rows : List StationRow) → rows ≡ padded 16 blank_station ss → (k g : ℕ) → k ≡ length ss → g ≡ h → (b : Network) → b ≡ blank_network
      → ◌≡◌ {A = Network} (record { stationcount = k; stations = rows; headway = g; linecount = b.linecount; lines = b.lines; closurecount = b.closurecount; closures = b.closures }) (before_lines ss h)
  unfolding before_lines blank_network network_with padded
  stations_known rows u k g m o b e = rw (e, u, m, o)

  pub lines_known : (ls : List (Placed LineRow)) (rows : List LineRow) → rows ≡ padded 32 blank_line (map (λ l. l.entry) ls) → (k : ℕ) → k ≡ length ls → (n : Network) → n ≡ before_lines ss h
      → ◌≡◌ {A = Network} (record { stationcount = n.stationcount; stations = n.stations; headway = n.headway; linecount = k; lines = rows; closurecount = n.closurecount; closures = n.closures }) (before_closures ss h ls)
  unfolding before_lines before_closures network_with padded
  lines_known ls rows u k m n e = rw (e, u, m, length-map ls (λ (l : Placed LineRow). l.entry))

  pub closures_known : (ls : List (Placed LineRow)) (cs : List (Placed Closure)) (rows : List Closure) → rows ≡ padded 32 blank_closure (map (λ c. c.entry) cs) → (k : ℕ) → k ≡ length cs
      → (n : Network) → n ≡ before_closures ss h ls
      → ◌≡◌ {A = Network} (record { stationcount = n.stationcount; stations = n.stations; headway = n.headway; linecount = n.linecount; lines = n.lines; closurecount = k; closures = rows }) (network_of (listed_with ss h ls cs))
  unfolding before_closures network_with rows_listed network_of padded
  closures_known ls cs rows u k m n e = rw (e, u, m, length-map cs (λ (c : Placed Closure). c.entry))

-- the one fault, or what comes behind it
fault_or : (a b : Option FileError) → fault_told (option_or a b) ≡ or_fault (fault_told a) (fault_told b)
unfolding or_fault
fault_or None b = refl
fault_or (Some e) b = sym (rw (ne_eqb (number_of e.refusal) 0 (number_there e.refusal)))

pub faults_or : (a b c : Option FileError) (u v w : Fault) → fault_told a ≡ u → fault_told b ≡ v → fault_told c ≡ w
    → fault_told (option_or (option_or a b) c) ≡ or_fault u (or_fault v w)
faults_or a b c u v w p q r =
    ap fault_told (behind_both a) ∙ fault_or a (option_or b c) ∙ ap₂ or_fault p (fault_or b c ∙ ap₂ or_fault q r)
  where
    behind_both : (a : Option FileError) → option_or (option_or a b) c ≡ option_or a (option_or b c)
    behind_both None = refl
    behind_both (Some e) = refl
