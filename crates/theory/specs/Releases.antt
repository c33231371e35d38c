-- Rooms at two releases. Document 02, W6: "Two control rooms at different releases, the older's sheet handed over as
-- its timetable file in the earlier form, must still merge to what the centre holds on taking the older room's edits
-- with mark 0, provided no visit at the older room's stations has mark 1 at the start or gets it from another room."
-- The older room works by the release as it was (Earlier), the others by the newest; the proof is in
-- proofs/ReleasesMerge; nothing here is proved. The letters are those of Statements; g is the older room's group, x a
-- railway of both releases. The file is in the crate demands, which speaks of bytes. Assumes nothing.
use Rattle.std.specs.Prelude.{ℕ, Bool, true, false, not, ◌&&◌, ◌||◌, List, [], ◌∷◌, map, ◌≡◌, T, eqb}
use Rattle.std.specs.Prelude.{if◌then◌else◌}
use Rattle.base.specs.Lists.{every}
use Rattle.base.specs.Runs.{run, answers}
use Rattle.timetable.specs.Tables.{Table}
use Rattle.timetable.specs.Machine.{Timetable, local, throughout, meaning, answer, after}
use Rattle.timetable.specs.EditsFile.{mark_of}
use Rattle.timetable.specs.Groups.{Grouping, names_group, in_group, Divided, divide, merge, gather, divided_answer, divided_after}
use Rattle.timetable.specs.Good.{Whole}
use Rattle.theory.specs.Types.{Station, Visit, Plan, Extension, Report, Network, Answer}
use Rattle.theory.specs.Types.{Edit, Place, Prepend, Append, DeleteFirst, DeleteLast, Amend}
use Rattle.theory.specs.Types.{ReportArrival, ReportDeparture, AddRelation, RemoveRelation, DeleteTrain}
use Rattle.theory.specs.Reordering.{along, Reordering}
use Rattle.theory.specs.Statements.{GoodNetwork, Grouped}
use Rattle.theory.specs.Earlier as Earlier

-- from the one release to the other

-- what the older room sees of a visit, a table and an edit: all but the mark and a report's minute
unfoldable pub early_visit : Visit → Earlier.Visit
early_visit v = record {
  track = v.track;
  arrival = v.arrival;
  arrived = v.arrived;
  departure = v.departure;
  departed = v.departed;
  inward = v.inward;
  outward = v.outward;
}

unfoldable pub early_table : Table → Earlier.Table
early_table tab = record { visits = map (λ e. record { train = e.train; visit = early_visit e.visit }) tab.visits; relations = tab.relations }

unfoldable pub early_plan : Plan → Earlier.Plan
early_plan p = record { station = p.station; train = p.train; track = p.track; arrival = p.arrival; departure = p.departure }

unfoldable pub early_extension : Extension → Earlier.Extension
early_extension x = record { plan = early_plan x.plan; other = x.other; line = x.line; run = x.run }

unfoldable pub early_report : Report → Earlier.Report
early_report r = record { station = r.station; train = r.train; time = r.time }

unfoldable pub early_edit : Edit → Earlier.Edit
early_edit (Place p) = Earlier.place (early_plan p)
early_edit (Prepend x) = Earlier.prepend (early_extension x)
early_edit (Append x) = Earlier.append (early_extension x)
early_edit (DeleteFirst d) = Earlier.delete_first d
early_edit (DeleteLast d) = Earlier.delete_last d
early_edit (Amend p) = Earlier.amend (early_plan p)
early_edit (ReportArrival r) = Earlier.report_arrival (early_report r)
early_edit (ReportDeparture r) = Earlier.report_departure (early_report r)
early_edit (AddRelation r) = Earlier.add_relation r
early_edit (RemoveRelation r) = Earlier.remove_relation r
early_edit (DeleteTrain c) = Earlier.delete_train c

-- "with mark 0": what the others see of the older room's visits and tables
unfoldable pub unmarked_visit : Earlier.Visit → Visit
unmarked_visit v = record {
  track = v.track;
  marked = false;
  arrival = v.arrival;
  arrived = v.arrived;
  departure = v.departure;
  departed = v.departed;
  inward = v.inward;
  outward = v.outward;
}

unfoldable pub unmarked_table : Earlier.Table → Table
unmarked_table tab = record { visits = map (λ e. record { train = e.train; visit = unmarked_visit e.visit }) tab.visits; relations = tab.relations }

unfoldable pub unmarked : Earlier.Timetable → Timetable
unmarked m = λ k. unmarked_table (m k)

-- the railway: the older room's timetable, and the division of the others, whose part of that room is read by nobody

pub record Railway : Type 0 where
  pub older : Earlier.Timetable
  pub newer : Divided

module _ (n : Network) (γ : Grouping) (g : ℕ) where
  -- the older room's timetable in its place: "the older's sheet handed over"
  unfoldable pub handed : Railway → Divided
  handed x = λ h. if eqb h g then unmarked x.older else x.newer h

  -- what an edit sees in the older room: its own stations, and of the other group that it names all but the marks
  unfoldable pub older_sees : Edit → Railway → Earlier.Timetable
  older_sees e x = λ k. if in_group γ g k then x.older k else early_table (gather γ (names_group n γ e) (handed x) k)

  -- an edit, taken by each room that it names on its own stations
  unfoldable pub older_after : Edit → Railway → Earlier.Timetable
  older_after e x =
      if names_group n γ e g
      then (λ k. if in_group γ g k then Earlier.after n (early_edit e) (older_sees e x) k else Earlier.empty)
      else x.older

  unfoldable pub both_after : Edit → Railway → Railway
  both_after e x = record { older = older_after e x; newer = divided_after n γ e (handed x) }

  -- what the other rooms answer; the older room answers the edits that name it
  unfoldable pub newer_answer : Edit → Railway → Answer
  newer_answer e x = divided_answer n γ e (handed x)

  unfoldable pub older_answer : Edit → Railway → Answer
  older_answer e x = if names_group n γ e g then Earlier.answer n (early_edit e) (older_sees e x) else newer_answer e x

  -- the railway at the start
  unfoldable pub two_releases : Timetable → Railway
  two_releases m = record { older = λ k. early_table (divide γ m g k); newer = divide γ m }

  -- the proviso

  -- "no visit at the older room's stations has mark 1 at the start"
  abbrev pub UnmarkedThere : Timetable → Type 0
  UnmarkedThere m = (k : Station) → T (in_group γ g k) → T (every (λ e. not e.visit.marked) (m k).visits)

  -- "or gets it from another room": an edit with mark 1 at one of its stations
  unfoldable pub marks_there : Edit → Bool
  marks_there e = mark_of e && elim (meaning e) [ local a ↦ in_group γ g a.home | throughout t ↦ false ]

  -- such an edit is refused wherever it stands in the list
  unfoldable pub none_marks : List Edit → Timetable → Bool
  none_marks [] m = true
  none_marks (e ∷ es) m = (not (marks_there e) || not (eqb (answer n e m).refusal 0)) && none_marks es (after n e m)

-- in the order ps
pub record TwoReleases (n : Network) (γ : Grouping) (g : ℕ) (m : Timetable) (es : List Edit) (ps : List ℕ) : Type 0 where
  -- the older room and the others answer alike
  pub older_answers : answers (both_after n γ g) (older_answer n γ g) (along es ps) (two_releases n γ g m) ≡ along (answers (after n) (answer n) es m) ps
  pub newer_answers : answers (both_after n γ g) (newer_answer n γ g) (along es ps) (two_releases n γ g m) ≡ along (answers (after n) (answer n) es m) ps
  -- each room has its part of the central timetable, and no visit at the older room's stations is marked
  pub same_rooms : run (both_after n γ g) (along es ps) (two_releases n γ g m) ≡ two_releases n γ g (run (after n) es m)
  pub still_unmarked : UnmarkedThere n γ g (run (after n) es m)
  pub same_merged : merge γ (handed n γ g (run (both_after n γ g) (along es ps) (two_releases n γ g m))) ≡ run (after n) es m

-- every good network, grouping, older room, whole timetable, list of edits and order that demand 3 allows
abbrev pub ReleasesMerge : Type 0
ReleasesMerge = (n : Network) → GoodNetwork n → (γ : Grouping) (gs : List ℕ) → Grouped n γ gs → (g : ℕ) → (m : Timetable) → Whole n m → UnmarkedThere n γ g m
    → (es : List Edit) → T (none_marks n γ g es m) → (ps : List ℕ) → Reordering (names_group n γ) es ps → TwoReleases n γ g m es ps

-- The key ring of this module: `unfolding opened` opens every definition above.
unfoldable pub opened : Unit {0}
unfolding early_visit early_table early_plan early_extension early_report early_edit unmarked_visit unmarked_table unmarked handed older_sees older_after both_after
    newer_answer older_answer two_releases marks_there none_marks
opened = tt
