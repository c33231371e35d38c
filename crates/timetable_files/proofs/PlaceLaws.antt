-- The input of `inspect` is refused with a number that is not 0, at a place of it or at its end; so an answer of 0 says
-- that it was accepted. Reading never goes past the end (network_files), and entry by entry the place is one of those
-- read. Assumes nothing.
use Prim.Native.Nat.{ℕ, ◌≤◌}
use mathlib.Core.Path.{◌≡◌, refl, sym, ◌∙◌, ap}
use mathlib.Core.Bool.{Bool, true, false}
use mathlib.Core.List.{List, [], ◌∷◌}
use native.Mathlib.Omega.{arith}
use lib.Dec.{leb, eqb, leb→le}
use lib.ListN.{length}
use borrow.Author.Tests.{eqb-false}
use Rattle.std.specs.Prelude.{if◌then◌else◌}
use Rattle.base.proofs.Tests.{every_head, every_tail}
use Rattle.timetable.specs.declared.FileForm.{FileForm}
use Rattle.timetable.specs.Formats.{Format, done, field, Outcome, accepted, refused, ◌and_then◌, field_at, behind, read, ended, read_file, Placed, placed}
use Rattle.timetable.specs.NetworkFile.{Listed, network_format}
use Rattle.timetable.specs.NetworkFile.{network_of, network_fault, unless_fault}
use Rattle.timetable.specs.EditsFile.{station_relation_entry}
use Rattle.timetable.specs.Machine.{Timetable, nothing_placed}
use Rattle.timetable.specs.FileForms.{newest_form}
use Rattle.timetable.specs.TimetableFile.{StationVisit, Entries, visit_entry, visit_floor, relation_floor, visits_format, relations_format, timetable_format}
use Rattle.timetable.specs.TimetableFile.{visit_refusal, relation_refusal, enter_visit, enter_relation, entered, timetable_of}
use Rattle.timetable.specs.InspectFile.{Inspection, Both, inspect_format, inspection, read_inspect}
use Rattle.timetable.proofs.OutcomeLaws.{fault_taken, behind_taken, ended_taken}
use Rattle.fields.proofs.EntryLaws.{then_taken, placed_read}
use Rattle.network_files.proofs.PlaceLaws.{Within, behind_within, read_within, ended_within, taken_same, next_within, number_within, PlacedWithin, entries_within, network_within}

-- the entries of a timetable

abbrev behind_visits : List (Placed StationVisit) → Format Entries
behind_visits vs = field 0 96 (λ m. relations_format m and_then (λ rs. done (record { visits = vs; relations = rs })))

timetable_within : (form : FileForm) (file : List ℕ) (at : ℕ) → at ≤ length file → (x : Entries) (next : ℕ) → read (timetable_format form) file at ≡ accepted x next
    → PlacedWithin (length file) x.visits × PlacedWithin (length file) x.relations
unfolding read timetable_format visits_format relations_format
timetable_within form file at h x next e =
    let (k, p₁, u₁, v₁) = behind_taken (field_at 0 384 file at) (λ k p. read (visits_format form k and_then behind_visits) file p) x next e in
    let (vs, p₂, u₂, v₂) = then_taken (visits_format form k) behind_visits file p₁ x next v₁ in
    let (m, p₃, u₃, v₃) = behind_taken (field_at 0 96 file p₂) (λ m p. read (relations_format m and_then (λ rs. done (record { visits = vs; relations = rs }))) file p) x next v₂ in
    let (rs, p₄, u₄, v₄) = then_taken (relations_format m) (λ rs. done (record { visits = vs; relations = rs })) file p₃ x next v₃ in
    let l₁ = number_within 0 384 file at h k p₁ u₁ in
    let l₂ = next_within (visits_format form k) file p₁ l₁ vs p₂ u₂ in
    let l₃ = number_within 0 96 file p₂ l₂ m p₃ u₃ in
    let z : record { visits = vs; relations = rs } ≡ x = cc in (
      rw (← z) (entries_within (visit_entry form) visit_floor file k [] p₁ l₁ vs p₂ u₂),
      rw (← z) (entries_within station_relation_entry relation_floor file m [] p₃ l₃ rs p₄ u₄),
    )

-- entry by entry
entered_within : {A : Type 0} (refusal : A → Timetable → ℕ) (enter : A → Timetable → Timetable) (end : ℕ) (ps : List (Placed A)) (m : Timetable) (next : ℕ)
    → PlacedWithin end ps → next ≤ end → Within end (entered refusal enter ps m next)
unfolding entered Within PlacedWithin
entered_within refusal enter end [] m next t h = h
entered_within refusal enter end (p ∷ ps) m next t h =
    go (eqb (refusal p.entry m) 0) refl (entered_within refusal enter end ps (enter p.entry m) next (every_tail (λ p. leb p.place end) p ps t) h)
  where
    go : (b : Bool) → eqb (refusal p.entry m) 0 ≡ b → Within end (entered refusal enter ps (enter p.entry m) next)
        → Within end (if b then entered refusal enter ps (enter p.entry m) next else refused (refusal p.entry m) p.place)
    go true e ih = ih
    go false e ih = (eqb-false (refusal p.entry m) 0 e, leb→le p.place end (every_head (λ p. leb p.place end) p ps t))

-- the input of `inspect`

abbrev behind_network : Listed → Format Both
behind_network x = placed (timetable_format newest_form) and_then (λ es. done (record { listed = x; entries = es }))

pub inspect_within : (file : List ℕ) → Within (length file) (read_inspect file)
unfolding read_inspect read_file read behind inspect_format inspection timetable_of Within
inspect_within file =
    go (ended file (read inspect_format file 0)) refl (ended_within file (read inspect_format file 0) (read_within inspect_format file 0 (omega arith)))
  where
    tested : (x : Both) (p next : ℕ) → read network_format file 0 ≡ accepted x.listed p → PlacedWithin (length file) x.entries.entry.visits
        → PlacedWithin (length file) x.entries.entry.relations → next ≤ length file
        → Within (length file) (unless_fault (network_fault x.listed) (inspection x next))
    tested x p next a b c h =
        let n = network_of x.listed in
        let es = x.entries.entry in
        network_within file x.listed p a (inspection x next)
        (behind_within (length file) (timetable_of n es next) (λ m next. accepted (record { network = n; first = x.entries.place; timetable = m }) next)
        (behind_within (length file) (entered (visit_refusal n) enter_visit es.visits nothing_placed next)
        (λ m next. entered (relation_refusal n) enter_relation es.relations m next)
        (entered_within (visit_refusal n) enter_visit (length file) es.visits nothing_placed next b h)
        (λ m next l. entered_within (relation_refusal n) enter_relation (length file) es.relations m next c l))
        (λ m next l. l))

    go : (o : Outcome Both) → ended file (read inspect_format file 0) ≡ o → Within (length file) o
        → Within (length file) (behind o (λ x next. unless_fault (network_fault x.listed) (inspection x next)))
    go (refused k p) e h = h
    go (accepted x next) e h =
        let r = ended_taken file (read inspect_format file 0) x next e in
        let (y, p, u, v) = then_taken network_format behind_network file 0 x next r in
        let (es, q, w, z) = then_taken (placed (timetable_format newest_form)) (λ es. done (record { listed = y; entries = es })) file p x next v in
        let (b, l, s, t) = behind_taken (read (timetable_format newest_form) file p) (λ a next. accepted (record { place = p; entry = a }) next) es q (sym (placed_read (timetable_format newest_form) file p) ∙ w) in
        let i : record { listed = y; entries = es } ≡ x = taken_same _ x q next z in
        let j : record { place = p; entry = b } ≡ es = taken_same _ es l q t in
        let (c, d) = timetable_within newest_form file p (next_within network_format file 0 (omega arith) y p u) b l s in
        rw (← i, ← j) (tested (record { listed = y; entries = record { place = p; entry = b } }) p next u c d h)

-- the timetable starts within the file

placed_there : {A : Type 0} (f : Format A) (file : List ℕ) (at : ℕ) (a : Placed A) (next : ℕ) → read (placed f) file at ≡ accepted a next → a.place ≡ at
placed_there f file at a next e =
    let (b, p, u, v) = behind_taken (read f file at) (λ a next. accepted (record { place = at; entry = a }) next) a next (sym (placed_read f file at) ∙ e) in
    let s : record { place = at; entry = b } ≡ a = taken_same _ a p next v in
    ap (λ (x : Placed _). x.place) (sym s)

both_there : (file : List ℕ) (x : Both) (next : ℕ) → read inspect_format file 0 ≡ accepted x next → x.entries.place ≤ length file
unfolding read inspect_format
both_there file x next e =
    let (l, i, a, b) = then_taken network_format behind_network file 0 x next e in
    let (es, j, c, d) = then_taken (placed (timetable_format newest_form)) (λ es. done (record { listed = l; entries = es })) file i x next b in
    let s : record { listed = l; entries = es } ≡ x = taken_same _ x j next d in
    rw (← s, placed_there (timetable_format newest_form) file i es j c) (next_within network_format file 0 (omega arith) l i a)

tested_there : (x : Both) (p : ℕ) (y : Inspection) (next : ℕ) → inspection x p ≡ accepted y next → y.first ≡ x.entries.place
unfolding inspection
tested_there x p y next e =
    let (m, q, u, v) = behind_taken (timetable_of (network_of x.listed) x.entries.entry p)
    (λ m next. accepted (record { network = network_of x.listed; first = x.entries.place; timetable = m }) next) y next e in
    let s : record { network = network_of x.listed; first = x.entries.place; timetable = m } ≡ y = taken_same _ y q next v in
    ap (λ (z : Inspection). z.first) (sym s)

pub first_within : (file : List ℕ) (x : Inspection) (next : ℕ) → read_inspect file ≡ accepted x next → x.first ≤ length file
unfolding read_inspect read_file
first_within file x next e =
    let (y, p, r, v) = behind_taken (ended file (read inspect_format file 0)) (λ x next. unless_fault (network_fault x.listed) (inspection x next)) x next e in
    let (_, o) = fault_taken (network_fault y.listed) (inspection y p) x next v in
    rw (tested_there y p x next o) (both_there file y p (ended_taken file (read inspect_format file 0) y p r))
