-- Timetables read back in any form that can say them, and only the written file reads to them. What is read is put in
-- station by station, so it is written again as it was read. Assumes nothing.
use Prim.Native.Nat.{ℕ, ◌+◌}
use mathlib.Core.Path.{◌≡◌, sym, ◌∙◌, ap, ap₂, subst}
use mathlib.Core.Bool.{true}
use mathlib.Core.List.{List, flat_map}
use lib.Dec.{T}
use lib.ListN.{length}
use Rattle.base.specs.Lists.{keep, each_two}
use Rattle.base.proofs.Tests.{every_keep, every_mapped, every_flatMap, every_true, every_all}
use Rattle.numbers.specs.Numbers.{width}
use Rattle.network.specs.Networks.{stations_of, network_refusal}
use Rattle.timetable.specs.declared.FileForm.{FileForm}
use Rattle.timetable.specs.Formats.{Outcome, accepted, behind, read_file, bytes_of}
use Rattle.timetable.specs.FileForms.{newest_form}
use Rattle.timetable.specs.EditsFile.{station_relation_numbers}
use Rattle.timetable.specs.Machine.{Timetable, nothing_placed}
use Rattle.timetable.specs.Good.{Whole}
use Rattle.timetable.specs.TimetableFile.{StationVisit, visit_numbers, visit_said, Entries, timetable_format, visit_refusal, relation_refusal}
use Rattle.timetable.specs.TimetableFile.{enter_visit, enter_relation, entered, timetable_of}
use Rattle.timetable.specs.TimetableFile.{read_timetable_as, visits_at, timetable_numbers_as}
use Rattle.roundtrips.specs.Types.{StationRelation, Network}
use Rattle.roundtrips.specs.RoundTrips.{Said, TimetableRoundTrip}
use Rattle.timetable.proofs.OutcomeLaws.{behind_taken, under_taken, under_free}
use Rattle.roundtrips.proofs.WalkLaws.{span, file_read, file_walks}
use Rattle.roundtrips.proofs.RowsWalked.{values_entries}
use Rattle.roundtrips.proofs.MarkLaws.{newest_says}
use Rattle.roundtrips.proofs.VisitWalks.{said}
use Rattle.roundtrips.proofs.OrderLaws.{before, visit_key, relation_key}
use Rattle.roundtrips.proofs.TimetableWalks.{all_visits, all_relations, entries_of, AllSaid, file_numbers, file_entries, walks_timetable, Walked, timetable_walks}
use Rattle.roundtrips.proofs.EnterLaws.{at, Clear, enters_all, clears_all}
use Rattle.roundtrips.proofs.EnteredTables.{visit_station, to_entry, with_visits, visit_known, visits_entering, no_visits}
use Rattle.roundtrips.proofs.EnteredTables.{relation_station, with_relations, relation_known, relations_entering, no_relations}
use Rattle.roundtrips.proofs.WrittenTables.{visits_in, visits_clear, relations_in, relations_clear, written_back}
use Rattle.roundtrips.proofs.ReadTables.{visits_written, relations_written, made_whole}

-- what the entries make

abbrev VisitsClear : Network → List StationVisit → Type 0
VisitsClear n vs = Clear visit_station (before visit_key) (visit_refusal n) enter_visit with_visits (visit_known n) 24 (visits_entering n) vs

abbrev RelationsClear : Network → Timetable → List StationRelation → Type 0
RelationsClear n m rs = Clear relation_station (before relation_key) (relation_refusal n) enter_relation (with_relations m) (relation_known n) 6 (relations_entering n m) rs

module _ (n : Network) (x : Entries) (next : ℕ) where
  pub entries_made : T (each_two (before visit_key) (entries_of x.visits)) → T (each_two (before relation_key) (entries_of x.relations))
      → VisitsClear n (entries_of x.visits) → RelationsClear n (with_visits (entries_of x.visits)) (entries_of x.relations)
      → timetable_of n x next ≡ accepted (with_relations (with_visits (entries_of x.visits)) (entries_of x.relations)) next
  unfolding timetable_of behind
  entries_made o r c d =
      let vs = entries_of x.visits in
      ap (λ (o : Outcome Timetable). behind o (λ m next. entered (relation_refusal n) enter_relation x.relations m next))
      (ap (λ (m : Timetable). entered (visit_refusal n) enter_visit x.visits m next) (sym no_visits)
      ∙ clears_all visit_station (before visit_key) (visit_refusal n) enter_visit with_visits (visit_known n) 24 (visits_entering n) x.visits next o c)
      ∙ ap (λ (m : Timetable). entered (relation_refusal n) enter_relation x.relations m next) (sym (no_relations vs))
      ∙ clears_all relation_station (before relation_key) (relation_refusal n) enter_relation (with_relations (with_visits vs)) (relation_known n) 6
      (relations_entering n (with_visits vs)) x.relations next r d

  pub made_of : (m : Timetable) (last : ℕ) → T (each_two (before visit_key) (entries_of x.visits)) → T (each_two (before relation_key) (entries_of x.relations))
      → timetable_of n x next ≡ accepted m last
      → (m ≡ with_relations (with_visits (entries_of x.visits)) (entries_of x.relations)) × (next ≡ last)
      × VisitsClear n (entries_of x.visits) × RelationsClear n (with_visits (entries_of x.visits)) (entries_of x.relations)
  unfolding timetable_of
  made_of m last o r e =
      let vs = entries_of x.visits in
      let (k, p, u, v) = behind_taken (entered (visit_refusal n) enter_visit x.visits nothing_placed next)
      (λ m next. entered (relation_refusal n) enter_relation x.relations m next) m last e in
      let (a, b, c) = enters_all visit_station (before visit_key) (visit_refusal n) enter_visit with_visits (visit_known n) 24 (visits_entering n) x.visits next k p o
      (ap (λ (m : Timetable). entered (visit_refusal n) enter_visit x.visits m next) no_visits ∙ u) in
      let (f, g, d) = enters_all relation_station (before relation_key) (relation_refusal n) enter_relation (with_relations (with_visits vs)) (relation_known n) 6
      (relations_entering n (with_visits vs)) x.relations p m last r
      (ap (λ (m : Timetable). entered (relation_refusal n) enter_relation x.relations m p) (no_relations vs ∙ sym a) ∙ v) in
      (f, b ∙ g, c, d)

-- the entries of a whole timetable, read from any place on, make it
pub written_read : (form : FileForm) (n : Network) (g : network_refusal n ≡ 0) (m : Timetable) → Whole n m → (p next : ℕ)
    → timetable_of n (file_entries form p (all_visits n m) (all_relations n m)) next ≡ accepted m next
written_read form n g m w p next =
    let vs = all_visits n m in
    let rs = all_relations n m in
    let x = file_entries form p vs rs in
    let i : vs ≡ entries_of x.visits = sym (values_entries (visit_numbers form) (p + width (length vs)) vs) in
    let j : rs ≡ entries_of x.relations
    = sym (values_entries station_relation_numbers (p + width (length vs) + span (flat_map (visit_numbers form) vs) + width (length rs)) rs) in
    entries_made n x next (subst (λ (l : List StationVisit). T (each_two (before visit_key) l)) i (visits_in n g m w).order)
    (subst (λ (l : List StationRelation). T (each_two (before relation_key) l)) j (relations_in n g m w).order)
    (subst (VisitsClear n) i (visits_clear n g m w))
    (subst (RelationsClear n (with_visits (entries_of x.visits))) j (relations_clear n g m w (with_visits (entries_of x.visits))))
    ∙ ap (λ (m : Timetable). accepted m next)
    (ap₂ (λ (vs : List StationVisit) (rs : List StationRelation). with_relations (with_visits vs) rs) (sym i) (sym j) ∙ written_back n g m w)

-- a form can say a timetable just if it can say the visits of the file

pub said_all : (form : FileForm) (n : Network) (m : Timetable) → Said form m → AllSaid form (all_visits n m)
unfolding visits_at
said_all form n m t =
    every_flatMap (said form) (visits_at m) (λ s. true)
    (λ s u. every_mapped (said form) (λ e. visit_said form e.visit) (λ e. record { station = s; train = e.train; visit = e.visit }) (λ e v. v) (m s).visits (t s))
    (stations_of n) (every_true (stations_of n))

all_said : (form : FileForm) (vs : List StationVisit) (rs : List StationRelation) → AllSaid form vs → Said form (with_relations (with_visits vs) rs)
unfolding with_relations with_visits
all_said form vs rs t k =
    every_mapped (λ e. visit_said form e.visit) (said form) to_entry (λ v u. u) (keep (at visit_station k) vs) (every_keep (said form) (at visit_station k) vs t)

pub timetable_said_newest : (m : Timetable) → Said newest_form m
unfolding visit_said
timetable_said_newest m k = every_all (λ e. visit_said newest_form e.visit) (λ e. newest_says e.visit.marked) (m k).visits

-- what numbers that are accepted as entries give: the timetable that they write
pub record Given (form : FileForm) (n : Network) (ns : List ℕ) (m : Timetable) : Type 0 where
  pub numbers : ns ≡ timetable_numbers_as form n m
  pub whole : Whole n m
  pub marks : Said form m

pub entries_written : (form : FileForm) (n : Network) (x : Entries) (p : ℕ) (m : Timetable) (next : ℕ) → network_refusal n ≡ 0 → (ns : List ℕ)
    → Walked form ns (entries_of x.visits) (entries_of x.relations) → timetable_of n x p ≡ accepted m next → Given form n ns m × (p ≡ next)
unfolding timetable_numbers_as
entries_written form n x p m next g ns h v =
    let vs = entries_of x.visits in
    let rs = entries_of x.relations in
    let i = h.visits in
    let j = h.relations in
    let (y, z, c, d) = made_of n x p m next i.order j.order v in (
      subst (Given form n ns) (sym y) (record {
        numbers = h.numbers ∙ sym (ap₂ (file_numbers form) (visits_written n g vs rs i j c d) (relations_written n g vs rs i j c d));
        whole = made_whole n g vs rs i j c d;
        marks = all_said form vs rs h.marks;
      }),
      z,
    )

pub timetable_trip : (form : FileForm) → TimetableRoundTrip form
unfolding read_timetable_as behind timetable_numbers_as
timetable_trip form = record {
  back = λ n m g w t.
      let vs = all_visits n m in
      let rs = all_relations n m in
      let e = file_read (timetable_format form) (file_numbers form vs rs) (file_entries form 0 vs rs)
      (walks_timetable form 0 vs rs (visits_in n g m w) (said_all form n m t) (relations_in n g m w)) in
      under_free (network_refusal n) (read_file (timetable_format form) (bytes_of (file_numbers form vs rs))) (timetable_of n) g
      ∙ ap (λ (o : Outcome Entries). behind o (λ x next. timetable_of n x next)) e ∙ written_read form n g m w 0 (span (file_numbers form vs rs));
  only = λ n file m next s e.
      let (g, f) = under_taken (network_refusal n) (read_file (timetable_format form) file) (timetable_of n) m next e in
      let (x, p, r, q) = behind_taken (read_file (timetable_format form) file) (timetable_of n) m next f in
      let w = file_walks (timetable_format form) file x p s r in
      let (k, z) = entries_written form n x p m next g w.numbers (timetable_walks form 0 w.numbers x w.walk) q in
      record { file_is = w.bytes ∙ ap bytes_of k.numbers; end = sym z ∙ w.end ∙ ap length (sym w.bytes); network_good = g; whole = k.whole; said = k.marks };
}
