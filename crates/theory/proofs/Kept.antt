-- An edit keeps a whole timetable whole: each edit's two new tables are good where the edit is in range, known and not
-- refused, the other tables stay, and only listed stations get a new table. A refused edit changes nothing. Assumes
-- nothing.
use Prim.Native.Nat.{ℕ}
use mathlib.Core.Path.{◌≡◌, refl}
use mathlib.Core.Bool.{Bool, true, false, not}
use mathlib.Core.List.{List, [], ◌∷◌}
use lib.Dec.{T, eqb, T_not, eqb→eq}
use borrow.Author.Tests.{eqb-true, eqb-false, ne_eqb}
use Rattle.base.specs.Choice.{◌if◌else◌}
use Rattle.std.specs.Prelude.{if◌then◌else◌}
use Rattle.base.specs.Lists.{every, is, each_two, rising}
use Rattle.base.specs.Runs.{run}
use Rattle.base.proofs.Tests.{true_T, both, parts, passed, rest_passed, held}
use Rattle.railway.specs.declared.sorts.Line.{Line}
use Rattle.railway.specs.declared.edit.Plan.{Plan}
use Rattle.railway.specs.declared.edit.Extension.{Extension}
use Rattle.railway.specs.declared.edit.Report.{Report}
use Rattle.railway.specs.declared.edit.StationRelation.{StationRelation}
use Rattle.railway.specs.declared.edit.Edit.TheVariants.{Place, Prepend, Append, DeleteFirst, DeleteLast, Amend}
use Rattle.railway.specs.declared.edit.Edit.TheVariants.{ReportArrival, ReportDeparture, AddRelation, RemoveRelation, DeleteTrain}
use Rattle.railway.specs.Ranges.{station_ok, train_ok, track_ok, line_ok, minute_ok, run_ok, same_station}
use Rattle.railway.specs.Relations.{relation_ok}
use Rattle.railway.specs.Edits.{plan_ok, extension_ok, report_ok, station_relation_ok, edit_ok}
use Rattle.network.specs.Networks.{listed, track_known, runs}
use Rattle.timetable.specs.Visits.{lacks_in, lacks_out, with_in, with_out, planned, amended, arrived_at, departed_at, from, onward}
use Rattle.timetable.specs.Tables.{Table, empty, visit_of, has_visit, has_relation, without, full_visits, full_relations}
use Rattle.timetable.specs.Machine.{Timetable, nothing_placed, put, Action, Meaning, local, throughout, as_it_was, room, meaning, known, refused_as, edit_refusal, sound, refusal, changed, after}
use Rattle.timetable.specs.Good.{in_good, out_good, visits_good, relations_good, table_good, Whole}
use Rattle.timetable.proofs.Locality.{same_station_equal}
use Rattle.timetable.proofs.TableLaws.{GoodTable, GoodVisit, table_facts, table_fits, add_visit_good, change_visit_good, add_relation_good, drop_relation_good, without_good}
use Rattle.timetable.proofs.TableLaws.{planned_good, amended_good, arrived_good, departed_good, from_good, onward_good, unlinked_in_good, unlinked_out_good}
use Rattle.theory.specs.Types.{Station, Edit, Network}
use Rattle.theory.specs.Statements.{WholeIsKept}

-- what an edit in range carries

record GoodPlan (p : Plan) : Type 0 where
  station : T (station_ok p.station)
  train : T (train_ok p.train)
  track : T (track_ok p.track)
  arrival : T (minute_ok p.arrival)
  departure : T (minute_ok p.departure)

plan_facts : (p : Plan) → T (plan_ok p) → GoodPlan p
unfolding plan_ok
plan_facts p h = record { station = search parts; train = search parts; track = search parts; arrival = search parts; departure = search parts }

record GoodExtension (x : Extension) : Type 0 where
  plan : GoodPlan x.plan
  other : T (station_ok x.other)
  line : T (line_ok x.line)
  run : T (run_ok x.run)

extension_facts : (x : Extension) → T (extension_ok x) → GoodExtension x
unfolding extension_ok
extension_facts x h = record { plan = plan_facts x.plan (search parts); other = search parts; line = search parts; run = search parts }

report_time : (r : Report) → T (report_ok r) → T (minute_ok r.time)
unfolding report_ok
report_time r h = search parts

added_relation : (q : StationRelation) → T (station_relation_ok q) → T (relation_ok q.relation)
unfolding station_relation_ok
added_relation q h = search parts

-- the visit that a plan in range makes, on a known track

plan_good : (n : Network) (p : Plan) → GoodPlan p → T (track_known n p.station p.track) → GoodVisit n p.station (planned p)
plan_good n p g k = planned_good n p.station p (both (track_ok p.track) (track_known n p.station p.track) g.track k) g.arrival g.departure

-- edits 1, 2 and 3 that are not refused: there is room
pub has_room : (n : Network) (s : Station) (tab : Table) → room n s tab ≡ 0 → full_visits tab ≡ false
unfolding room
has_room n s tab e = passed 11 (full_visits tab) 0 e

-- past three tests
pub third : (b c d : Bool) (r : ℕ) → (8 if b else 9 if c else 10 if d else r) ≡ 0 → r ≡ 0
third b c d r e = rest_passed 9 d _ (rest_passed 8 c _ (rest_passed 7 b _ e))

-- the links of an edit in range on a line that runs are good

in_fits : (n : Network) (s o : Station) (l : Line) → T (station_ok o) → T (line_ok l) → T (listed n o) → T (runs n l o s) → T (in_good n s (record { station = o; line = l }))
unfolding in_good
in_fits n s o l h k i r = search both

out_fits : (n : Network) (s o : Station) (l : Line) (m : ℕ) → T (station_ok o) → T (line_ok l) → T (run_ok m) → T (listed n o) → T (runs n l s o)
    → T (out_good n s (record { station = o; line = l; run = m }))
unfolding out_good
out_fits n s o l m h k j i r = search both

-- each edit at its two tables

-- the new tables are good where the old ones are
pub record KeepsTables (n : Network) (a : Action) : Type 0 where
  pub here : (here there : Table) → a.refuses n here there ≡ 0 → GoodTable n a.home here → GoodTable n a.home (a.here here)
  pub there : (tab : Table) → GoodTable n a.away tab → GoodTable n a.away (a.there tab)

abbrev pub Keeps : Network → Meaning → Type 0
Keeps n (local a) = T (listed n a.home) → T (listed n a.away) → T (a.fits n) → KeepsTables n a
Keeps n (throughout t) = Unit {0}

pub keeps : (n : Network) (e : Edit) → T (edit_ok e) → Keeps n (meaning e)
unfolding edit_ok meaning as_it_was
keeps n (Place p) h = λ home away fits.
    let g : GoodPlan p = plan_facts p h in
    record {
      here = λ here there r.
          add_visit_good n p.station p.train (planned p) here g.train
          (plan_good n p g fits)
          (passed 7 (has_visit p.train here) _ r) (has_room n p.station here (rest_passed 7 (has_visit p.train here) _ r));
      there = λ tab k. k;
    }
keeps n (Prepend x) h = λ home away fits.
    let g : GoodExtension x = extension_facts x h in
    let track : T (track_known n x.plan.station x.plan.track) = search parts in
    let way : T (runs n x.line x.plan.station x.other) = search parts in
    record {
      here = λ here there r.
          add_visit_good n x.plan.station x.plan.train (with_out (onward x.other x.line x.run) (planned x.plan)) here g.plan.train
          (onward_good n x.plan.station x.other x.line x.run (planned x.plan)
          (out_fits n x.plan.station x.other x.line x.run g.other g.line g.run away way)
          (plan_good n x.plan g.plan track))
          (passed 7 (has_visit x.plan.train here) _ r)
          (has_room n x.plan.station here (third (has_visit x.plan.train here) (not (has_visit x.plan.train there)) (not (is lacks_in (visit_of x.plan.train there))) _ r));
      there = change_visit_good n x.other x.plan.train (with_in (from x.plan.station x.line))
          (λ v. from_good n x.other x.plan.station x.line v (in_fits n x.other x.plan.station x.line g.plan.station g.line home way));
    }
keeps n (Append x) h = λ home away fits.
    let g : GoodExtension x = extension_facts x h in
    let track : T (track_known n x.plan.station x.plan.track) = search parts in
    let way : T (runs n x.line x.other x.plan.station) = search parts in
    record {
      here = λ here there r.
          add_visit_good n x.plan.station x.plan.train (with_in (from x.other x.line) (planned x.plan)) here g.plan.train
          (from_good n x.plan.station x.other x.line (planned x.plan)
          (in_fits n x.plan.station x.other x.line g.other g.line away way)
          (plan_good n x.plan g.plan track))
          (passed 7 (has_visit x.plan.train here) _ r)
          (has_room n x.plan.station here (third (has_visit x.plan.train here) (not (has_visit x.plan.train there)) (not (is lacks_out (visit_of x.plan.train there))) _ r));
      there = change_visit_good n x.other x.plan.train (with_out (onward x.plan.station x.line x.run))
          (λ v. onward_good n x.other x.plan.station x.line x.run v
          (out_fits n x.other x.plan.station x.line x.run g.plan.station g.line g.run home way));
    }
keeps n (DeleteFirst d) h = λ home away fits. record {
  here = λ here there r. without_good n d.station d.train here;
  there = change_visit_good n d.other d.train (with_in _) (unlinked_in_good n d.other);
}
keeps n (DeleteLast d) h = λ home away fits. record {
  here = λ here there r. without_good n d.station d.train here;
  there = change_visit_good n d.other d.train (with_out _) (unlinked_out_good n d.other);
}
keeps n (Amend p) h = λ home away fits.
    let g : GoodPlan p = plan_facts p h in
    record {
      here = λ here there r.
          change_visit_good n p.station p.train (amended p)
          (λ v. amended_good n p.station p v (both (track_ok p.track) (track_known n p.station p.track) g.track fits) g.arrival g.departure) here;
      there = λ tab k. k;
    }
keeps n (ReportArrival q) h = λ home away fits. record {
  here = λ here there r. change_visit_good n q.station q.train (arrived_at q.time) (λ v. arrived_good n q.station q.time v (report_time q h)) here;
  there = λ tab k. k;
}
keeps n (ReportDeparture q) h = λ home away fits. record {
  here = λ here there r. change_visit_good n q.station q.train (departed_at q.time) (λ v. departed_good n q.station q.time v (report_time q h)) here;
  there = λ tab k. k;
}
keeps n (AddRelation q) h = λ home away fits. record {
  here = λ here there r.
      add_relation_good n q.station q.relation here (added_relation q h)
      (passed 11 (full_relations here) 0 (rest_passed 7 (has_relation q.relation here) _ r));
  there = λ tab k. k;
}
keeps n (RemoveRelation q) h = λ home away fits. record {
  here = λ here there r. drop_relation_good n q.station q.relation here;
  there = λ tab k. k;
}
keeps n (DeleteTrain c) h = tt

-- the whole timetable

module _ (n : Network) (m : Timetable) (w : Whole n m) where
  -- an accepted edit at one or two stations
  local_whole : (a : Action) → KeepsTables n a → T (listed n a.home) → T (listed n a.away) → a.refuses n (m a.home) (m a.away) ≡ 0
      → Whole n (changed n (local a) m)
  unfolding changed put
  local_whole a k h o r = record {
    good = λ s l. good s l (same_station s a.home) refl (same_station s a.away) refl;
    bare = λ s l. bare s l (same_station s a.home) refl (same_station s a.away) refl;
  }
    where
      was-good : (s : Station) → T (listed n s) → GoodTable n s (m s)
      was-good s l = table_facts n s (m s) (w.good s l)

      good : (s : Station) → T (listed n s) → (x : Bool) → same_station s a.home ≡ x → (y : Bool) → same_station s a.away ≡ y
          → T (table_good n s (if x then a.here (m a.home) else if y then a.there (m a.away) else m s))
      good s l true p y q =
          rw (same_station_equal s a.home (true_T (same_station s a.home) p))
          (table_fits n a.home (a.here (m a.home)) (k.here (m a.home) (m a.away) r (was-good a.home h)))
      good s l false p true q =
          rw (same_station_equal s a.away (true_T (same_station s a.away) q))
          (table_fits n a.away (a.there (m a.away)) (k.there (m a.away) (was-good a.away o)))
      good s l false p false q = w.good s l

      differs : (s t : Station) → T (not (listed n s)) → T (listed n t) → ¬ T (same_station s t)
      differs s t u l e = T_not (listed n s) u (rw (same_station_equal s t e) l)

      bare : (s : Station) → T (not (listed n s)) → (x : Bool) → same_station s a.home ≡ x → (y : Bool) → same_station s a.away ≡ y
          → (if x then a.here (m a.home) else if y then a.there (m a.away) else m s) ≡ empty
      bare s u true p y q = absurd (differs s a.home u h (true_T (same_station s a.home) p))
      bare s u false p true q = absurd (differs s a.away u o (true_T (same_station s a.away) q))
      bare s u false p false q = w.bare s u

  changed_whole : (μ : Meaning) → Keeps n μ → refused_as n μ m ≡ 0 → Whole n (changed n μ m)
  unfolding changed refused_as known
  changed_whole (local a) k r =
      let fine : T (known n a) = held 6 (known n a) (a.refuses n (m a.home) (m a.away)) r in
      let home : T (listed n a.home) = search parts in
      let away : T (listed n a.away) = search parts in
      local_whole a (k home away (search parts)) home away
      (rest_passed 6 (not (known n a)) (a.refuses n (m a.home) (m a.away)) r)
  changed_whole (throughout t) k r = record { good = λ s l. good s l (listed n s) refl; bare = λ s l. bare s l (listed n s) refl }
    where
      good : (s : Station) → T (listed n s) → (b : Bool) → listed n s ≡ b → T (table_good n s (if b then without t (m s) else m s))
      good s l true e = table_fits n s (without t (m s)) (without_good n s t (m s) (table_facts n s (m s) (w.good s l)))
      good s l false e = w.good s l

      bare : (s : Station) → T (not (listed n s)) → (b : Bool) → listed n s ≡ b → (if b then without t (m s) else m s) ≡ empty
      bare s u true e = absurd (T_not (listed n s) u (true_T (listed n s) e))
      bare s u false e = w.bare s u

-- an accepted edit is sound, so its values are in range
pub sound_ok : (e : Edit) → T (sound e) → T (edit_ok e)
unfolding edit_refusal
sound_ok e t = held 2 (edit_ok e) _ (eqb→eq _ 0 t)

pub accepted_sound : (n : Network) (e : Edit) (m : Timetable) → refusal n e m ≡ 0 → T (sound e) × (refused_as n (meaning e) m ≡ 0)
unfolding refusal
accepted_sound n e m r = go (sound e) refl r
  where
    go : (b : Bool) → sound e ≡ b → (if b then refused_as n (meaning e) m else edit_refusal e) ≡ 0 → T b × (refused_as n (meaning e) m ≡ 0)
    go true q z = (tt, z)
    go false q z = absurd (eqb-false (edit_refusal e) 0 q z)

pub after_whole : (n : Network) (m : Timetable) (e : Edit) → Whole n m → Whole n (after n e m)
unfolding after
after_whole n m e w = go (eqb (refusal n e m) 0) refl
  where
    go : (b : Bool) → eqb (refusal n e m) 0 ≡ b → Whole n (if b then changed n (meaning e) m else m)
    go true p =
        let none : refusal n e m ≡ 0 = eqb-true (refusal n e m) 0 p in
        let fine = accepted_sound n e m none in
        changed_whole n m w (meaning e) (keeps n e (sound_ok e fine.0)) fine.1
    go false p = w

pub whole_kept : WholeIsKept
unfolding after
whole_kept n m e = record {
  whole = after_whole n m e;
  refused = λ r. rw (ne_eqb (refusal n e m) 0 r);
}

-- a list of edits keeps a timetable whole
pub run_whole : (n : Network) (es : List Edit) (m : Timetable) → Whole n m → Whole n (run (after n) es m)
unfolding run
run_whole n [] m w = w
run_whole n (e ∷ es) m w = run_whole n es (after n e m) (after_whole n m e w)

-- the timetable with nothing placed is whole, so every list of edits from there leaves a whole one
pub nothing_whole : (n : Network) → Whole n nothing_placed
unfolding nothing_placed empty table_good visits_good relations_good rising each_two every
nothing_whole n = record { good = λ k l. tt; bare = λ k l. refl }
