-- Visit entries read part by part: the station and the train, and the entry before. Assumes nothing.
use Prim.Native.Nat.{ℕ, ◌≤◌}
use mathlib.Core.Path.{◌≡◌, refl, sym, ◌∙◌, ap}
use mathlib.Core.Bool.{Bool, true, false}
use mathlib.Core.List.{List, [], ◌∷◌, ◌++◌}
use native.Mathlib.Omega.{arith}
use lib.Dec.{T, leb, eqb, le→leb}
use lib.ListN.{get_or}
use borrow.Author.Tests.{ne_eqb}
use Rattle.std.specs.Prelude.{if◌then◌else◌}
use Rattle.base.proofs.Tests.{both}
use Rattle.railway.specs.Ranges.{last_minute, station_ok}
use Rattle.timetable.specs.Formats.{Format, done, field, Outcome, accepted, refused, ◌and_then◌, field_at, read, ◌to◌, least, floor_after, compared, row}
use Rattle.timetable.specs.declared.FileForm.{FileForm}
use Rattle.timetable.specs.FileForms.{mark_range, with_fourth, with_mark}
use Rattle.timetable.specs.TimetableFile.{StationVisit, visit_ranges, in_link_entry, out_link_entry, station_visit_of, visit_entry}
use Rattle.fields.proofs.EntryLaws.{field_bounded, field_on, field_stop, then_taken, row_taken}
use Rattle.visit_files.specs.between.Answers.{value_ranges, visit_values}

-- the station and the train

-- two numbers are the whole key
pub floor_two : (s t a b : ℕ) → floor_after t (floor_after s (a ∷ b ∷ [])) ≡ []
unfolding floor_after
floor_two s t a b = go (eqb s a)
  where
    go : (x : Bool) → floor_after t (if x then b ∷ [] else []) ≡ []
    go true = refl
    go false = refl

abbrev behind_row : FileForm → List ℕ → Format StationVisit
behind_row form ns = in_link_entry and_then (λ i. out_link_entry and_then (λ o. done (station_visit_of (with_mark form ns) i o)))

abbrev behind_train : FileForm → ℕ → ℕ → List ℕ → Format StationVisit
behind_train form s t left =
    row (1 to 8 ∷ (mark_range form ++ (0 to last_minute ∷ 0 to 1 ∷ 0 to last_minute ∷ 0 to 1 ∷ []))) left and_then (λ ns. done (t ∷ ns)) and_then (λ ns. done (s ∷ ns)) and_then behind_row form

-- behind both nothing of the floor is left
behind_values_of : (form : FileForm) (s t : ℕ) → behind_train form s t [] ≡ visit_values form s t
unfolding visit_values value_ranges mark_range row compared ◌and_then◌
behind_values_of FileForm.Earlier s t = refl
behind_values_of FileForm.Newest s t = refl

module _ (form : FileForm) (floor file : List ℕ) (at : ℕ) where
  pub station_stop : (k p : ℕ) → field_at (least 1 floor) 16 file at ≡ refused k p → read (visit_entry form floor) file at ≡ refused k p
  unfolding visit_entry visit_ranges row compared ◌and_then◌
  station_stop k p e = field_stop (least 1 floor) 16 _ file at k p e

  module _ (s next : ℕ) (e : field_at (least 1 floor) 16 file at ≡ accepted s next) where
    station_then : read (visit_entry form floor) file at ≡ read (field (least 1 (floor_after s floor)) 9999 (λ t. behind_train form s t (floor_after t (floor_after s floor)))) file next
    unfolding visit_entry visit_ranges row compared ◌and_then◌
    station_then = field_on (least 1 floor) 16 _ file at s next e

    pub train_stop : (k p : ℕ) → field_at (least 1 (floor_after s floor)) 9999 file next ≡ refused k p → read (visit_entry form floor) file at ≡ refused k p
    train_stop k p q = station_then ∙ field_stop (least 1 (floor_after s floor)) 9999 (λ t. behind_train form s t (floor_after t (floor_after s floor))) file next k p q

module _ (form : FileForm) (a b : ℕ) (file : List ℕ) (at s next : ℕ) (e : field_at (least 1 (a ∷ b ∷ [])) 16 file at ≡ accepted s next) where
  abbrev left : List ℕ
  left = floor_after s (a ∷ b ∷ [])

  pub train_then : (t later : ℕ) → field_at (least 1 left) 9999 file next ≡ accepted t later
      → read (visit_entry form (a ∷ b ∷ [])) file at ≡ read (visit_values form s t) file later
  train_then t later q =
      station_then form (a ∷ b ∷ []) file at s next e ∙ field_on (least 1 left) 9999 (λ t. behind_train form s t (floor_after t left)) file next t later q
      ∙ ap (λ (l : List ℕ). read (behind_train form s t l) file later) (floor_two s t a b)
      ∙ ap (λ (x : Format StationVisit). read x file later) (behind_values_of form s t)

-- zeros are below every entry, as no entry is
pub none_before : (form : FileForm) (file : List ℕ) (at : ℕ) → read (visit_entry form []) file at ≡ read (visit_entry form (0 ∷ 0 ∷ [])) file at
unfolding least floor_after
none_before form file at = go (field_at 1 16 file at) refl
  where
    go : (o : Outcome ℕ) → field_at 1 16 file at ≡ o → read (visit_entry form []) file at ≡ read (visit_entry form (0 ∷ 0 ∷ [])) file at
    go (refused k p) e = station_stop form [] file at k p e ∙ sym (station_stop form (0 ∷ 0 ∷ []) file at k p e)
    go (accepted s next) e =
        let z : floor_after s (0 ∷ 0 ∷ []) ≡ [] = rw (ne_eqb s 0 (λ z. omega (arith, z, (field_bounded 1 16 file at s next e).0))) in
        station_then form [] file at s next e
        ∙ sym (ap (λ (l : List ℕ). read (field (least 1 l) 9999 (λ t. behind_train form s t (floor_after t l))) file next) z)
        ∙ sym (station_then form (0 ∷ 0 ∷ []) file at s next e)

-- the station of an accepted entry is one of 1..16

least_low : (floor : List ℕ) → 1 ≤ least 1 floor
unfolding least
least_low [] = omega arith
least_low (b ∷ []) = omega arith
least_low (b ∷ c ∷ bs) = omega arith

pub placed_station : (floor file : List ℕ) (at s next : ℕ) → field_at (least 1 floor) 16 file at ≡ accepted s next → T (station_ok (record { 0 = s }))
placed_station floor file at s next e =
    let b = field_bounded (least 1 floor) 16 file at s next e in
    let l = least_low floor in
    both (leb 1 s) (leb s 16) (le→leb 1 s (omega (arith, b.0))) (le→leb s 16 b.1)

marked_station : (form : FileForm) (ns : List ℕ) → get_or (with_mark form ns) 0 0 ≡ get_or ns 0 0
unfolding with_fourth
marked_station FileForm.Earlier ns = refl
marked_station FileForm.Newest ns = refl

pub visit_station : (form : FileForm) (floor file : List ℕ) (at : ℕ) (e : StationVisit) (next : ℕ) → read (visit_entry form floor) file at ≡ accepted e next → T (station_ok e.station)
unfolding visit_entry visit_ranges read station_visit_of
visit_station form floor file at e next q =
    let (ns, p, u, v) = then_taken (row (visit_ranges form) floor) (λ ns. in_link_entry and_then (λ i. out_link_entry and_then (λ o. done (station_visit_of (with_mark form ns) i o)))) file at e next q in
    let (i, p2, u2, v2) = then_taken in_link_entry (λ i. out_link_entry and_then (λ o. done (station_visit_of (with_mark form ns) i o))) file p e next v in
    let (o, p3, u3, v3) = then_taken out_link_entry (λ o. done (station_visit_of (with_mark form ns) i o)) file p2 e next v2 in
    let (n, p4, ms, a, b, d) = row_taken _ _ floor file at ns p u in
    let z : station_visit_of (with_mark form ns) i o ≡ e = cc in
    rw (← z, marked_station form ns, d) (placed_station floor file at n p4 a)
