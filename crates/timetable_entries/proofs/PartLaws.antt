-- The two parts of a timetable, each a count and its entries; what the entries' answer says of the outcome. Assumes
-- nothing.
use Prim.Native.Nat.{ℕ}
use mathlib.Core.Path.{◌≡◌, refl, sym, ◌∙◌, ap}
use mathlib.Core.Bool.{Bool, true, false}
use mathlib.Core.List.{List, [], ◌∷◌}
use native.Mathlib.Omega.{arith}
use lib.Dec.{T, eqb}
use Rattle.std.specs.Prelude.{if◌then◌else◌}
use Rattle.base.specs.Lists.{every}
use Rattle.railway.specs.Ranges.{station_ok}
use Rattle.timetable.specs.declared.FileForm.{FileForm}
use Rattle.timetable.specs.Formats.{Format, done, Outcome, accepted, refused, ◌and_then◌, field_at, read, Placed}
use Rattle.timetable.specs.EditsFile.{station_relation_entry}
use Rattle.timetable.specs.Machine.{Timetable}
use Rattle.timetable.specs.TimetableFile.{StationVisit, Entries, visit_entry, visit_floor, relation_floor, visits_format, relations_format, timetable_format, visit_refusal, relation_refusal, enter_visit, enter_relation, entered, timetable_of}
use Rattle.timetable.proofs.OutcomeLaws.{behind_taken}
use Rattle.fields.proofs.EntryLaws.{then_taken}
use Rattle.timetable_entries.specs.Types.{StationRelation, Network}
use Rattle.timetable.specs.declared.Fault.{Fault}
use Rattle.timetable_entries.specs.between.Entering.{Progress, visit_step, relation_step, through, entries_read, entries_sheet, visit_part, relation_part, all_through, timetable_entries, timetable_sheet}
use Rattle.fields.proofs.EntryLaws.{field_on, field_stop, then_on, then_stop}
use Rattle.timetable_entries.proofs.LoopLaws.{relation_station, entries_all}
use Rattle.visit_files.proofs.VisitLaws.{visit_station}

-- what an answer says of its outcome

taken_same : (f : Fault) (next : ℕ) (g : Fault) (later : ℕ) → ◌≡◌ {A = Outcome Fault} (accepted f next) (accepted g later) → (f ≡ g) × (next ≡ later)
taken_same f next g later e = (cc, cc)

refused_same : (k p j r : ℕ) → ◌≡◌ {A = Outcome Fault} (refused k p) (refused j r) → (k ≡ j) × (p ≡ r)
refused_same k p j r e = (cc, cc)

never : (f : Fault) (next k p : ℕ) → ¬ (◌≡◌ {A = Outcome Fault} (accepted f next) (refused k p))
never f next k p e = cc

module _ {A : Type 0} (step : Placed A → Progress → Progress) (g : Progress) (o : Outcome (List (Placed A))) where
  pub entries_took : (f : Fault) (next : ℕ) → accepted f next ≡ entries_read step g o → (ps : List (Placed A)) × (o ≡ accepted ps next) × (f ≡ (through step ps g).fault)
  unfolding entries_read
  entries_took f next e = go o e
    where
      go : (o : Outcome (List (Placed A))) → accepted f next ≡ entries_read step g o → (ps : List (Placed A)) × (o ≡ accepted ps next) × (f ≡ (through step ps g).fault)
      go (accepted ps later) q = let (x, y) = taken_same f next (through step ps g).fault later q in (ps, ap (accepted ps) (sym y), x)
      go (refused k p) q = absurd (never f next k p q)

  pub entries_refusal : (k p : ℕ) → refused k p ≡ entries_read step g o → o ≡ refused k p
  unfolding entries_read
  entries_refusal k p e = go o e
    where
      go : (o : Outcome (List (Placed A))) → refused k p ≡ entries_read step g o → o ≡ refused k p
      go (accepted ps next) q = absurd (never _ next k p (sym q))
      go (refused j r) q = let (x, y) = refused_same k p j r q in rw (x, y)

module _ (n : Network) (g : Progress) (o : Outcome Entries) where
  pub timetable_took : (f : Fault) (next : ℕ) → accepted f next ≡ timetable_entries n g o → (x : Entries) × (o ≡ accepted x next) × (f ≡ (all_through n x g).fault)
  unfolding timetable_entries
  timetable_took f next e = go o e
    where
      go : (o : Outcome Entries) → accepted f next ≡ timetable_entries n g o → (x : Entries) × (o ≡ accepted x next) × (f ≡ (all_through n x g).fault)
      go (accepted x later) q = let (u, y) = taken_same f next (all_through n x g).fault later q in (x, ap (accepted x) (sym y), u)
      go (refused k p) q = absurd (never f next k p q)

  pub timetable_refusal : (k p : ℕ) → refused k p ≡ timetable_entries n g o → o ≡ refused k p
  unfolding timetable_entries
  timetable_refusal k p e = go o e
    where
      go : (o : Outcome Entries) → refused k p ≡ timetable_entries n g o → o ≡ refused k p
      go (accepted x next) q = absurd (never _ next k p (sym q))
      go (refused j r) q = let (x, y) = refused_same k p j r q in rw (x, y)

-- a count and its entries

module _ (form : FileForm) (file : List ℕ) (at : ℕ) where
  pub visit_part_stop : (k p : ℕ) → field_at 0 384 file at ≡ refused k p → read (visit_part form) file at ≡ refused k p
  unfolding visit_part
  visit_part_stop k p e = field_stop 0 384 (visits_format form) file at k p e

  pub visit_part_then : (k next : ℕ) → field_at 0 384 file at ≡ accepted k next → read (visit_part form) file at ≡ read (visits_format form k) file next
  unfolding visit_part
  visit_part_then k next e = field_on 0 384 (visits_format form) file at k next e

module _ (file : List ℕ) (at : ℕ) where
  pub relation_part_stop : (k p : ℕ) → field_at 0 96 file at ≡ refused k p → read relation_part file at ≡ refused k p
  unfolding relation_part
  relation_part_stop k p e = field_stop 0 96 relations_format file at k p e

  pub relation_part_then : (k next : ℕ) → field_at 0 96 file at ≡ accepted k next → read relation_part file at ≡ read (relations_format k) file next
  unfolding relation_part
  relation_part_then k next e = field_on 0 96 relations_format file at k next e

-- visits and then relations

abbrev both_parts : List (Placed StationVisit) → List (Placed StationRelation) → Format Entries
both_parts vs rs = done (record { visits = vs; relations = rs })

abbrev behind_visits : List (Placed StationVisit) → Format Entries
behind_visits vs = relation_part and_then both_parts vs

parts : (form : FileForm) → timetable_format form ≡ (visit_part form and_then behind_visits)
unfolding timetable_format visit_part relation_part ◌and_then◌
parts form = refl

module _ (form : FileForm) (file : List ℕ) (at : ℕ) where
  pub visits_refused : (k p : ℕ) → read (visit_part form) file at ≡ refused k p → read (timetable_format form) file at ≡ refused k p
  visits_refused k p e = ap (λ (f : Format Entries). read f file at) (parts form) ∙ then_stop (visit_part form) behind_visits file at k p e

  module _ (vs : List (Placed StationVisit)) (next : ℕ) (e : read (visit_part form) file at ≡ accepted vs next) where
    visits_then : read (timetable_format form) file at ≡ read (behind_visits vs) file next
    visits_then = ap (λ (f : Format Entries). read f file at) (parts form) ∙ then_on (visit_part form) behind_visits file at vs next e

    -- the answer and the sheet of the relations are those of the file
    module _ (n : Network) (g later : Progress) (is : later ≡ through (visit_step n) vs g) where
      pub joined : (entries_read (relation_step n) later (read relation_part file next) ≡ timetable_entries n g (read (timetable_format form) file at))
          × (entries_sheet (relation_step n) later (read relation_part file next) ≡ timetable_sheet n g (read (timetable_format form) file at))
      unfolding entries_read entries_sheet timetable_entries timetable_sheet all_through read
      joined = go (read relation_part file next) refl
        where
          go : (o : Outcome (List (Placed StationRelation))) → read relation_part file next ≡ o
              → (entries_read (relation_step n) later o ≡ timetable_entries n g (read (timetable_format form) file at))
              × (entries_sheet (relation_step n) later o ≡ timetable_sheet n g (read (timetable_format form) file at))
          go (accepted rs end) q =
              let w = visits_then ∙ then_on relation_part (both_parts vs) file next rs end q in
              (rw is (sym (ap (timetable_entries n g) w)), rw is (sym (ap (timetable_sheet n g) w)))
          go (refused k p) q =
              let w = visits_then ∙ then_stop relation_part (both_parts vs) file next k p q in
              (sym (ap (timetable_entries n g) w), sym (ap (timetable_sheet n g) w))

-- stations of all entries

pub stations_fit : (form : FileForm) (file : List ℕ) (at : ℕ) (x : Entries) (next : ℕ) → read (timetable_format form) file at ≡ accepted x next
    → T (every (λ p. station_ok p.entry.station) x.visits) × T (every (λ p. station_ok p.entry.station) x.relations)
unfolding read visit_part relation_part visits_format relations_format
stations_fit form file at x next e =
    let (vs, p, u, v) = then_taken (visit_part form) behind_visits file at x next (sym (ap (λ (f : Format Entries). read f file at) (parts form)) ∙ e) in
    let (rs, q, w, y) = then_taken relation_part (both_parts vs) file p x next v in
    let (k, r, a, b) = behind_taken (field_at 0 384 file at) (λ k p. read (visits_format form k) file p) vs p u in
    let (j, s, c, d) = behind_taken (field_at 0 96 file p) (λ k p. read (relations_format k) file p) rs q w in
    let z : record { visits = vs; relations = rs } ≡ x = cc in (
      rw (← z) (entries_all (visit_entry form) visit_floor file (λ e. station_ok e.station) (λ floor at a next. visit_station form floor file at a next) k [] r vs p b),
      rw (← z) (entries_all station_relation_entry relation_floor file (λ e. station_ok e.station) (λ floor at a next. relation_station floor file at a next) j [] s rs q d),
    )

-- an accepted timetable ends where its file does

entered_next : {A : Type 0} (refusal : A → Timetable → ℕ) (enter : A → Timetable → Timetable) (ps : List (Placed A)) (m : Timetable) (next : ℕ) (later : Timetable) (end : ℕ)
    → entered refusal enter ps m next ≡ accepted later end → end ≡ next
unfolding entered
entered_next refusal enter [] m next later end e = cc
entered_next refusal enter (p ∷ ps) m next later end e = go (eqb (refusal p.entry m) 0) e (entered_next refusal enter ps (enter p.entry m) next later end)
  where
    go : (b : Bool) → (if b then entered refusal enter ps (enter p.entry m) next else refused (refusal p.entry m) p.place) ≡ accepted later end
        → (entered refusal enter ps (enter p.entry m) next ≡ accepted later end → end ≡ next) → end ≡ next
    go true q ih = ih q
    go false q ih = let z : ◌≡◌ {A = ℕ} 0 1 = cc in absurd (omega arith)

pub timetable_next : (n : Network) (x : Entries) (next : ℕ) (m : Timetable) (end : ℕ) → timetable_of n x next ≡ accepted m end → end ≡ next
unfolding timetable_of
timetable_next n x next m end e =
    let (l, p, u, v) = behind_taken (entered (visit_refusal n) enter_visit x.visits _ next) (λ m next. entered (relation_refusal n) enter_relation x.relations m next) m end e in
    entered_next (relation_refusal n) enter_relation x.relations l p m end v ∙ entered_next (visit_refusal n) enter_visit x.visits _ next l p u
