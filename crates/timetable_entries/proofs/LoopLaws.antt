-- The loops over entries, of either kind: what is read before each turn, one entry more, a refused entry and the end.
-- Assumes nothing.
use Prim.Native.Nat.{ℕ, zero, suc, ◌+◌, ◌-◌, ◌<◌, ◌≤◌}
use mathlib.Core.Path.{◌≡◌, refl, sym, ◌∙◌, ap}
use mathlib.Core.Bool.{Bool}
use mathlib.Core.List.{List, [], ◌∷◌, ◌++◌}
use native.Mathlib.Omega.{arith}
use lib.Dec.{T}
use Rattle.base.specs.Lists.{every}
use Rattle.base.proofs.Tests.{every_cons}
use Rattle.railway.specs.Ranges.{station_ok}
use Rattle.timetable.specs.Formats.{Format, done, Outcome, accepted, refused, ◌and_then◌, field_at, behind, read, least, floor_after, compared, entries, Placed, placed}
use Rattle.timetable.specs.EditsFile.{relation_entry, station_relation_entry}
use Rattle.fields.proofs.ReadLaws.{read_then, prefixed, SoFar, start, turn, stop, over, entries_next, entries_stop, entries_over}
use Rattle.timetable.proofs.OutcomeLaws.{behind_taken}
use Rattle.fields.proofs.EntryLaws.{then_taken}
use Rattle.fields.proofs.EntryLaws.{placed_some, placed_none, placed_read}
use Rattle.timetable.specs.TimetableFile.{StationVisit}
use Rattle.timetable_entries.specs.Types.{Station, Train, Visit, StationRelation}
use Rattle.visit_files.proofs.VisitLaws.{placed_station}
use Rattle.timetable_entries.specs.between.Entering.{Progress, through, entries_read, entries_sheet}

-- the station of an accepted relation is one of 1..16
pub relation_station : (floor file : List ℕ) (at : ℕ) (x : StationRelation) (next : ℕ) → read (station_relation_entry floor) file at ≡ accepted x next → T (station_ok x.station)
unfolding station_relation_entry compared read
relation_station floor file at x next q =
    let (s, p, u, v) = behind_taken (field_at (least 1 floor) 16 file at) (λ s p. read (relation_entry (floor_after s floor) and_then (λ r. done (record { station = record { 0 = s }; relation = r }))) file p) x next q in
    let (r, p2, a, b) = then_taken (relation_entry (floor_after s floor)) (λ r. done (record { station = record { 0 = s }; relation = r })) file p x next v in
    let z : record { station = record { 0 = s }; relation = r } ≡ x = cc in
    rw (← z) (placed_station floor file at s p u)

-- a visit entry's parts
abbrev pub station_visit : Station → Train → Visit → StationVisit
station_visit s t v = record { station = s; train = t; visit = v }

-- turns of the loops

through_snoc : {A : Type 0} (step : Placed A → Progress → Progress) (ps : List (Placed A)) (p : Placed A) (g : Progress) → through step (ps ++ (p ∷ [])) g ≡ step p (through step ps g)
unfolding through
through_snoc step [] p g = refl
through_snoc step (q ∷ ps) p g = through_snoc step ps p (step q g)

-- entries of any kind, behind a floor
module _ {A : Type 0} (entry : List ℕ → Format A) (floor_of : Placed A → List ℕ) (file : List ℕ) where
  abbrev pub left_at : ℕ → List ℕ → ℕ → Outcome (List (Placed A))
  left_at k floor place = read (entries (λ floor. placed (entry floor)) floor_of k floor) file place

  -- a floor that is as good as none
  pub same_left : (floor : List ℕ) → ((at : ℕ) → read (entry []) file at ≡ read (entry floor) file at) → (k at : ℕ) → left_at k [] at ≡ left_at k floor at
  unfolding entries read
  same_left floor same zero at = refl
  same_left floor same (suc k) at = first [] ∙ ap (λ (o : Outcome A). behind (behind o with-place) behind-first) (same at) ∙ sym (first floor)
    where
      with-place : A → ℕ → Outcome (Placed A)
      with-place a next = accepted (record { place = at; entry = a }) next

      behind-first : Placed A → ℕ → Outcome (List (Placed A))
      behind-first a next = read (entries (λ floor. placed (entry floor)) floor_of k (floor_of a) and_then (λ rest. done (a ∷ rest))) file next

      first : (floor : List ℕ) → left_at (suc k) floor at ≡ behind (behind (read (entry floor) file at) with-place) behind-first
      first floor =
          read_then (placed (entry floor)) (λ a. entries (λ floor. placed (entry floor)) floor_of k (floor_of a) and_then (λ rest. done (a ∷ rest))) file at
          ∙ ap (λ (o : Outcome (Placed A)). behind o behind-first) (placed_read (entry floor) file at)

  module _ (step : Placed A → Progress → Progress) (count at : ℕ) (g₀ : Progress) where
    -- before a turn: the list is the entries read and then what is left to read, and those read are put into the sheet
    abbrev pub Reached : ℕ → List ℕ → ℕ → Progress → Type 0
    Reached i floor place g = (s : SoFar (left_at count [] at) i (left_at (count - i) floor place)) × (g ≡ through step s.elements g₀)

    pub reached_first : (floor : List ℕ) → left_at count [] at ≡ left_at count floor at → Reached 0 floor at g₀
    unfolding start through
    reached_first floor e =
        let m : count - 0 ≡ count = omega arith in
        (start _ _ (e ∙ ap (λ (k : ℕ). left_at k floor at) (sym m)), refl)

    module _ (i : ℕ) (floor : List ℕ) (place : ℕ) (g : Progress) (f : Reached i floor place g) where
      pub reached-next : i < count → (a : A) (next : ℕ) (later : List ℕ) (h : Progress) → read (entry floor) file place ≡ accepted a next
          → later ≡ floor_of (record { place = place; entry = a }) → h ≡ step (record { place = place; entry = a }) g → Reached (i + 1) later next h
      unfolding turn
      reached-next less a next later h e q r =
          let p : Placed A = record { place = place; entry = a } in
          let m : count - i ≡ suc (count - (i + 1)) = omega arith in
          let one : left_at (count - i) floor place ≡ prefixed (p ∷ []) (left_at (count - (i + 1)) later next) =
          rw (m, q) (entries_next (λ floor. placed (entry floor)) floor_of floor file place (count - (i + 1)) p next (placed_some (entry floor) file place a next e)) in
          (turn _ _ _ f.0 p _ one, r ∙ ap (step p) f.1 ∙ sym (through_snoc step f.0.elements p g₀))

      pub reached-stop : i < count → (k p : ℕ) → read (entry floor) file place ≡ refused k p → refused k p ≡ entries_read step g₀ (left_at count [] at)
      unfolding entries_read
      reached-stop less k p e =
          let m : count - i ≡ suc (count - (i + 1)) = omega arith in
          let one : left_at (count - i) floor place ≡ refused k p =
          rw m (entries_stop (λ floor. placed (entry floor)) floor_of floor file place (count - (i + 1)) k p (placed_none (entry floor) file place k p e)) in
          sym (ap (entries_read step g₀) (stop _ _ _ f.0 k p one))

      pub reached-end : count ≤ i → (accepted g.fault place ≡ entries_read step g₀ (left_at count [] at)) × (g.sheet ≡ entries_sheet step g₀ (left_at count [] at))
      unfolding entries_read entries_sheet
      reached-end over_all =
          let m : count - i ≡ 0 = omega arith in
          let none_left : left_at (count - i) floor place ≡ accepted [] place = rw m (entries_over (λ floor. placed (entry floor)) floor_of floor file place) in
          let q = over _ _ _ f.0 place none_left in (
            sym (ap (entries_read step g₀) q ∙ ap (λ (x : Progress). accepted x.fault place) (sym f.1)),
            sym (ap (entries_sheet step g₀) q ∙ ap (λ (x : Progress). x.sheet) (sym f.1)),
          )

  -- what holds of each entry that is read holds of all
  pub entries_all : (ok : A → Bool) → ((floor : List ℕ) (at : ℕ) (a : A) (next : ℕ) → read (entry floor) file at ≡ accepted a next → T (ok a))
      → (k : ℕ) (floor : List ℕ) (at : ℕ) (ps : List (Placed A)) (next : ℕ) → left_at k floor at ≡ accepted ps next → T (every (λ p. ok p.entry) ps)
  unfolding entries read every
  entries_all ok each zero floor at ps next e = let z : ps ≡ [] = cc in rw z tt
  entries_all ok each (suc k) floor at ps next e =
      let (a, p, u, v) = then_taken (placed (entry floor)) (λ a. entries (λ floor. placed (entry floor)) floor_of k (floor_of a) and_then (λ rest. done (a ∷ rest))) file at ps next e in
      let (rest, q, w, x) = then_taken (entries (λ floor. placed (entry floor)) floor_of k (floor_of a)) (λ rest. done (a ∷ rest)) file p ps next v in
      let (b, r, y, t) = behind_taken (read (entry floor) file at) (λ a next. accepted (record { place = at; entry = a }) next) a p (sym (placed_read (entry floor) file at) ∙ u) in
      let z : ps ≡ a ∷ rest = cc in
      let s : record { place = at; entry = b } ≡ a = cc in
      rw z (every_cons (λ p. ok p.entry) a rest (rw (← s) (each floor at b r y)) (entries_all ok each k (floor_of a) p rest q w))
