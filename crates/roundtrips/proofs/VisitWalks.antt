-- A visit's entry, walked in a form: its first numbers are a row, with or without the mark, then come the links, each a
-- single 0 for none. Only the row differs by the form: the newest gives the mark of a number back, and the earlier
-- supplies the only mark that it can say. Assumes nothing.
use Prim.Native.Nat.{ℕ, ◌+◌}
use mathlib.Core.Path.{◌≡◌, refl, sym, ◌∙◌, ap, ap₂, subst}
use mathlib.Core.Bool.{Bool, true, false, ◌&&◌}
use mathlib.Core.List.{List, [], ◌∷◌, ◌++◌, append_assoc}
use native.Mathlib.Omega.{arith}
use lib.Dec.{T, eqb}
use lib.ListN.{get_or}
use lib.Seq.{get_or-drop}
use borrow.Author.Tests.{eqb-true, eqb-false, ne_eqb}
use Rattle.std.specs.Prelude.{if◌then◌else◌}
use Rattle.base.specs.Lists.{within}
use Rattle.base.proofs.Tests.{not_T_false, and_l, and_r, both, parts}
use Rattle.numbers.specs.Numbers.{width}
use Rattle.railway.specs.Ranges.{last_minute, station_ok, train_ok, track_ok, line_ok, minute_ok, run_ok}
use Rattle.timetable.specs.declared.FileForm.{FileForm}
use Rattle.timetable.specs.Formats.{done, field, ◌and_then◌, ◌to◌, row}
use Rattle.timetable.specs.FileForms.{status_number, mark_range, mark_numbers, mark_said, with_fourth, with_mark}
use Rattle.timetable.specs.TimetableFile.{StationVisit, visit_ranges, in_link_entry, out_link_entry, in_link_numbers, out_link_numbers}
use Rattle.timetable.specs.TimetableFile.{station_visit_of, visit_entry, visit_numbers, visit_said}
use Rattle.roundtrips.specs.Types.{InLink, OutLink}
use Rattle.roundtrips.proofs.Walks.{InRange, walks}
use Rattle.roundtrips.proofs.WalkLaws.{span, walks_then, then_walks, walks_made, made_walks}
use Rattle.roundtrips.proofs.RowsWalked.{Over, in_test, test_in, most_test, test_most, RowIn, walks_row, row_walks, by_index, row_exact, row_at, Entry}
use Rattle.roundtrips.proofs.MarkLaws.{status_in, status_back, back_status}

-- links

unfoldable pub in_link_ok : InLink → Bool
in_link_ok InLink.Nothing = true
in_link_ok (InLink.From i) = station_ok i.station && line_ok i.line

unfoldable pub out_link_ok : OutLink → Bool
out_link_ok OutLink.Nothing = true
out_link_ok (OutLink.To o) = station_ok o.station && (line_ok o.line && run_ok o.run)

-- a number above 0, from 0 on
from_zero : (hi n : ℕ) → InRange 1 hi n → InRange 0 hi n
from_zero hi n r = record { low = omega arith; high = r.high; short = r.short }

from_one : (hi n : ℕ) → InRange 0 hi n → eqb n 0 ≡ false → InRange 1 hi n
from_one hi n r e = record { low = omega (arith, eqb-false n 0 e); high = r.high; short = r.short }

pub walks_in : (p : ℕ) (i : InLink) → T (in_link_ok i) → walks in_link_entry p (in_link_numbers i) i
unfolding walks in_link_entry in_link_numbers in_link_ok
walks_in p InLink.Nothing t = (record { low = omega arith; high = omega arith; short = omega arith }, refl)
walks_in p (InLink.From i) t =
    let s : InRange 1 16 i.station.0 = test_in 1 16 i.station.0 (omega arith) (search parts) in (
      from_zero 16 i.station.0 s,
      rw (ne_eqb i.station.0 0 (λ e. omega (arith, s.low))) (test_in 1 32 i.line.0 (omega arith) (search parts), refl),
    )

pub in_walks : (p : ℕ) (ns : List ℕ) (i : InLink) → walks in_link_entry p ns i → (ns ≡ in_link_numbers i) × T (in_link_ok i)
unfolding walks in_link_entry in_link_numbers in_link_ok
in_walks p [] i w = absurd w
in_walks p (s ∷ ns) i (r, w) = go (eqb s 0) refl ns w
  where
    go : (b : Bool) → eqb s 0 ≡ b → (ns : List ℕ)
        → walks (if b then done InLink.Nothing else field 1 32 (λ l. done (InLink.From (record { station = record { 0 = s }; line = record { 0 = l } })))) (p + width s) ns i
        → (s ∷ ns ≡ in_link_numbers i) × T (in_link_ok i)
    go true e [] w = rw (← w) (ap (λ (k : ℕ). k ∷ []) (eqb-true s 0 e), tt)
    go true e (n ∷ ns) w = absurd w
    go false e [] w = absurd w
    go false e (l ∷ []) (q, w) = rw (← w) (refl, both (within 1 16 s) (within 1 32 l) (in_test 1 16 s (from_one 16 s r e)) (in_test 1 32 l q))
    go false e (l ∷ n ∷ ns) (q, w) = absurd w

pub walks_out : (p : ℕ) (o : OutLink) → T (out_link_ok o) → walks out_link_entry p (out_link_numbers o) o
unfolding walks out_link_entry out_link_numbers out_link_ok
walks_out p OutLink.Nothing t = (record { low = omega arith; high = omega arith; short = omega arith }, refl)
walks_out p (OutLink.To o) t =
    let s : InRange 1 16 o.station.0 = test_in 1 16 o.station.0 (omega arith) (search parts) in (
      from_zero 16 o.station.0 s,
      rw (ne_eqb o.station.0 0 (λ e. omega (arith, s.low)))
          (test_in 1 32 o.line.0 (omega arith) (search parts), (test_in 1 240 o.run (omega arith) (search parts), refl)),
    )

pub out_walks : (p : ℕ) (ns : List ℕ) (o : OutLink) → walks out_link_entry p ns o → (ns ≡ out_link_numbers o) × T (out_link_ok o)
unfolding walks out_link_entry out_link_numbers out_link_ok
out_walks p [] o w = absurd w
out_walks p (s ∷ ns) o (r, w) = go (eqb s 0) refl ns w
  where
    go : (b : Bool) → eqb s 0 ≡ b → (ns : List ℕ)
        → walks (if b then done OutLink.Nothing
        else field 1 32 (λ l. field 1 240 (λ m. done (OutLink.To (record { station = record { 0 = s }; line = record { 0 = l }; run = m }))))) (p + width s) ns o
        → (s ∷ ns ≡ out_link_numbers o) × T (out_link_ok o)
    go true e [] w = rw (← w) (ap (λ (k : ℕ). k ∷ []) (eqb-true s 0 e), tt)
    go true e (n ∷ ns) w = absurd w
    go false e [] w = absurd w
    go false e (l ∷ []) (q, w) = absurd w
    go false e (l ∷ m ∷ []) (q, (u, w)) =
        let t₁ = in_test 1 16 s (from_one 16 s r e) in
        let t₂ = in_test 1 32 l q in
        let t₃ = in_test 1 240 m u in
        rw (← w) (refl, search both)
    go false e (l ∷ m ∷ n ∷ ns) (q, (u, w)) = absurd w

-- the row

-- "s, t, track, arrival, status, departure, status", the mark after the track
abbrev times_row : StationVisit → List ℕ
times_row e = e.visit.arrival.0 ∷ status_number e.visit.arrived ∷ e.visit.departure.0 ∷ status_number e.visit.departed ∷ []

abbrev pub visit_row : FileForm → StationVisit → List ℕ
visit_row form e = e.station.0 ∷ e.train.0 ∷ e.visit.track.0 ∷ (mark_numbers form e.visit.marked ++ times_row e)

unfoldable pub visit_ok : StationVisit → Bool
visit_ok e =
    (station_ok e.station && train_ok e.train)
    && ((track_ok e.visit.track && (minute_ok e.visit.arrival && minute_ok e.visit.departure))
    && (in_link_ok e.visit.inward && out_link_ok e.visit.outward))

-- a form can say it, and it is in range
abbrev pub said : FileForm → StationVisit → Bool
said form e = visit_said form e.visit

abbrev pub visit_fits : FileForm → StationVisit → Bool
visit_fits form e = said form e && visit_ok e

row_in : (form : FileForm) (e : StationVisit) → T (visit_ok e) → RowIn (visit_ranges form) (visit_row form e)
unfolding RowIn mark_range mark_numbers visit_ranges visit_ok
row_in form e t = (
  test_in 1 16 e.station.0 (omega arith) (search parts),
  (
    test_in 1 9999 e.train.0 (omega arith) (search parts),
    (test_in 1 8 e.visit.track.0 (omega arith) (search parts), marks form),
  ),
)
  where
    times : RowIn (0 to last_minute ∷ 0 to 1 ∷ 0 to last_minute ∷ 0 to 1 ∷ []) (times_row e)
    times = (
      test_most 2879 e.visit.arrival.0 (omega arith) (search parts),
      (
        status_in e.visit.arrived,
        (
          test_most 2879 e.visit.departure.0 (omega arith) (search parts),
          (status_in e.visit.departed, tt),
        ),
      ),
    )

    marks : (form : FileForm)
        → RowIn (mark_range form ++ (0 to last_minute ∷ 0 to 1 ∷ 0 to last_minute ∷ 0 to 1 ∷ [])) (mark_numbers form e.visit.marked ++ times_row e)
    marks FileForm.Earlier = times
    marks FileForm.Newest = (status_in e.visit.marked, times)

-- a visit with another mark and other statuses
abbrev flagged : StationVisit → Bool → Bool → Bool → StationVisit
flagged e m a d = record {
  station = e.station;
  train = e.train;
  visit = record {
    track = e.visit.track;
    marked = m;
    arrival = e.visit.arrival;
    arrived = a;
    departure = e.visit.departure;
    departed = d;
    inward = e.visit.inward;
    outward = e.visit.outward;
  };
}

row_back : (form : FileForm) (e : StationVisit) → T (said form e) → station_visit_of (with_mark form (visit_row form e)) e.visit.inward e.visit.outward ≡ e
unfolding station_visit_of mark_numbers mark_said with_fourth visit_said
row_back form e t = go form t
  where
    flags : (m : Bool) → m ≡ e.visit.marked → flagged e m (eqb (status_number e.visit.arrived) 1) (eqb (status_number e.visit.departed) 1) ≡ e
    flags m x =
        ap (λ (m : Bool). flagged e m (eqb (status_number e.visit.arrived) 1) (eqb (status_number e.visit.departed) 1)) x
        ∙ ap₂ (flagged e e.visit.marked) (status_back e.visit.arrived) (status_back e.visit.departed)

    go : (form : FileForm) → T (said form e) → station_visit_of (with_mark form (visit_row form e)) e.visit.inward e.visit.outward ≡ e
    go FileForm.Earlier t = flags false (sym (not_T_false e.visit.marked t))
    go FileForm.Newest t = flags (eqb (status_number e.visit.marked) 1) (status_back e.visit.marked)

-- the numbers of a row, and links, make a visit in range that the form can say, and that is written with them
module _ (i : InLink) (o : OutLink) where
  row_written : (form : FileForm) (ns : List ℕ) → RowIn (visit_ranges form) ns → ns ≡ visit_row form (station_visit_of (with_mark form ns) i o)
  unfolding station_visit_of visit_ranges by_index mark_range mark_numbers with_fourth
  row_written FileForm.Earlier ns r =
      row_exact (visit_ranges FileForm.Earlier) ns r
      ∙ rw (get_or-drop 3 ns 0 0, get_or-drop 3 ns 1 0, get_or-drop 3 ns 2 0, get_or-drop 3 ns 3 0)
      (ap₂ (λ (a d : ℕ). get_or ns 0 0 ∷ get_or ns 1 0 ∷ get_or ns 2 0 ∷ get_or ns 3 0 ∷ a ∷ get_or ns 5 0 ∷ d ∷ [])
      (sym (back_status (get_or ns 4 0) (row_at (visit_ranges FileForm.Earlier) ns r 4 (omega arith))))
      (sym (back_status (get_or ns 6 0) (row_at (visit_ranges FileForm.Earlier) ns r 6 (omega arith)))))
  row_written FileForm.Newest ns r =
      row_exact (visit_ranges FileForm.Newest) ns r
      ∙ ap (λ (m : ℕ). get_or ns 0 0 ∷ get_or ns 1 0 ∷ get_or ns 2 0 ∷ m ∷ get_or ns 4 0 ∷ get_or ns 5 0 ∷ get_or ns 6 0 ∷ get_or ns 7 0 ∷ [])
      (sym (back_status (get_or ns 3 0) (row_at (visit_ranges FileForm.Newest) ns r 3 (omega arith))))
      ∙ ap₂ (λ (a d : ℕ). get_or ns 0 0 ∷ get_or ns 1 0 ∷ get_or ns 2 0 ∷ status_number (eqb (get_or ns 3 0) 1) ∷ get_or ns 4 0 ∷ a ∷ get_or ns 6 0 ∷ d ∷ [])
      (sym (back_status (get_or ns 5 0) (row_at (visit_ranges FileForm.Newest) ns r 5 (omega arith))))
      (sym (back_status (get_or ns 7 0) (row_at (visit_ranges FileForm.Newest) ns r 7 (omega arith))))

  row_good : T (in_link_ok i) → T (out_link_ok o) → (form : FileForm) (ns : List ℕ) → RowIn (visit_ranges form) ns → T (visit_fits form (station_visit_of (with_mark form ns) i o))
  unfolding station_visit_of visit_ranges visit_ok visit_said mark_range mark_said with_fourth
  row_good u v FileForm.Earlier ns r =
      let t₁ = in_test 1 16 (get_or ns 0 0) (row_at (visit_ranges FileForm.Earlier) ns r 0 (omega arith)) in
      let t₂ = in_test 1 9999 (get_or ns 1 0) (row_at (visit_ranges FileForm.Earlier) ns r 1 (omega arith)) in
      let t₃ = in_test 1 8 (get_or ns 2 0) (row_at (visit_ranges FileForm.Earlier) ns r 2 (omega arith)) in
      let t₄ = most_test 2879 (get_or ns 3 0) (row_at (visit_ranges FileForm.Earlier) ns r 3 (omega arith)) in
      let t₅ = most_test 2879 (get_or ns 5 0) (row_at (visit_ranges FileForm.Earlier) ns r 5 (omega arith)) in
      rw (get_or-drop 3 ns 0 0, get_or-drop 3 ns 2 0) (search both)
  row_good u v FileForm.Newest ns r =
      let t₁ = in_test 1 16 (get_or ns 0 0) (row_at (visit_ranges FileForm.Newest) ns r 0 (omega arith)) in
      let t₂ = in_test 1 9999 (get_or ns 1 0) (row_at (visit_ranges FileForm.Newest) ns r 1 (omega arith)) in
      let t₃ = in_test 1 8 (get_or ns 2 0) (row_at (visit_ranges FileForm.Newest) ns r 2 (omega arith)) in
      let t₄ = most_test 2879 (get_or ns 4 0) (row_at (visit_ranges FileForm.Newest) ns r 4 (omega arith)) in
      let t₅ = most_test 2879 (get_or ns 6 0) (row_at (visit_ranges FileForm.Newest) ns r 6 (omega arith)) in
      search both

-- the entry

module _ (form : FileForm) where
  -- in range and in the form, and its row above the floor
  abbrev pub VisitFits : List ℕ → StationVisit → Type 0
  VisitFits floor e = T (visit_fits form e) × Over floor (visit_row form e)

  row_linked : (e : StationVisit) → visit_row form e ++ (in_link_numbers e.visit.inward ++ out_link_numbers e.visit.outward) ≡ visit_numbers form e
  unfolding visit_numbers
  row_linked e =
      ap (λ (l : List ℕ). e.station.0 ∷ e.train.0 ∷ e.visit.track.0 ∷ l)
      (append_assoc (mark_numbers form e.visit.marked) (times_row e) (in_link_numbers e.visit.inward ++ out_link_numbers e.visit.outward))

  pub walks_visit : (floor : List ℕ) (p : ℕ) (e : StationVisit) → VisitFits floor e → walks (visit_entry form floor) p (visit_numbers form e) e
  unfolding visit_entry visit_ok
  walks_visit floor p e (t, o) =
      let i = e.visit.inward in
      let u = e.visit.outward in
      let q = p + span (visit_row form e) in
      let ms = with_mark form (visit_row form e) in
      let g : T (visit_ok e) = and_r (said form e) (visit_ok e) t in
      subst (λ (l : List ℕ). walks (visit_entry form floor) p l e) (row_linked e)
      (subst (walks (visit_entry form floor) p (visit_row form e ++ (in_link_numbers i ++ out_link_numbers u))) (row_back form e (and_l (said form e) (visit_ok e) t))
      (walks_then (row (visit_ranges form) floor) (λ ns. in_link_entry and_then (λ i. out_link_entry and_then (λ o. done (station_visit_of (with_mark form ns) i o))))
      p (visit_row form e) (in_link_numbers i ++ out_link_numbers u) (visit_row form e) _ (walks_row (visit_ranges form) floor p (visit_row form e) (row_in form e g) o)
      (walks_then in_link_entry (λ i. out_link_entry and_then (λ o. done (station_visit_of ms i o)))
      q (in_link_numbers i) (out_link_numbers u) i _ (walks_in q i (search parts))
      (walks_made (station_visit_of ms i) out_link_entry (q + span (in_link_numbers i)) (out_link_numbers u) u
      (walks_out (q + span (in_link_numbers i)) u (search parts))))))

  -- the numbers of the three parts, put together
  visit_parts : (floor xs ms ys zs : List ℕ) (i : InLink) (o : OutLink) → xs ≡ ms → RowIn (visit_ranges form) ms → Over floor ms → ys ≡ in_link_numbers i → T (in_link_ok i)
      → zs ≡ out_link_numbers o → T (out_link_ok o)
      → (xs ++ (ys ++ zs) ≡ visit_numbers form (station_visit_of (with_mark form ms) i o)) × VisitFits floor (station_visit_of (with_mark form ms) i o)
  unfolding station_visit_of
  visit_parts floor xs ms ys zs i o x y z a b c d =
      let m : ms ≡ visit_row form (station_visit_of (with_mark form ms) i o) = row_written i o form ms y in
      (ap₂ ◌++◌ (x ∙ m) (ap₂ ◌++◌ a c) ∙ row_linked (station_visit_of (with_mark form ms) i o), (row_good i o b d form ms y, subst (Over floor) m z))

  pub visit_walks : (floor : List ℕ) (p : ℕ) (ns : List ℕ) (e : StationVisit) → walks (visit_entry form floor) p ns e → (ns ≡ visit_numbers form e) × VisitFits floor e
  unfolding visit_entry
  visit_walks floor p ns e w =
      let s = then_walks (row (visit_ranges form) floor) (λ ns. in_link_entry and_then (λ i. out_link_entry and_then (λ o. done (station_visit_of (with_mark form ns) i o)))) p ns e w in
      let ms = with_mark form s.value in
      let r = then_walks in_link_entry (λ i. out_link_entry and_then (λ o. done (station_visit_of ms i o))) (p + span s.before) s.behind e s.second in
      let (o, v, q) = made_walks (station_visit_of ms r.value) out_link_entry (p + span s.before + span r.before) r.behind e r.second in
      let (x, y, z) = row_walks (visit_ranges form) floor p s.before s.value s.first in
      let (a, b) = in_walks (p + span s.before) r.before r.value r.first in
      let (c, d) = out_walks (p + span s.before + span r.before) r.behind o v in
      let (k, f) = visit_parts floor s.before s.value r.before r.behind r.value o x y z a b c d in
      let l : ns ≡ s.before ++ (r.before ++ r.behind) = s.whole ∙ ap (λ (l : List ℕ). s.before ++ l) r.whole in
      (l ∙ k ∙ ap (visit_numbers form) q, subst (VisitFits floor) q f)

  pub visit_law : Entry (visit_entry form) (visit_numbers form) VisitFits
  visit_law = record { walk = walks_visit; back = visit_walks }
