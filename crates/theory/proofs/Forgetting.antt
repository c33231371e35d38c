-- The machine of the release before W6 answers an edit as the newest does, and leaves what the newest leaves, marks
-- aside, where both judge its values alike: where it is sound, or carries the last minute. Edit by edit the older
-- meaning is the newer one on tables without their marks (Forgotten), and from there the two machines are one text.
-- Assumes nothing.
use Prim.Native.Nat.{ℕ}
use mathlib.Core.Path.{◌≡◌, refl, sym, ap, ◌∙◌, fun_ext}
use mathlib.Core.Bool.{Bool, true, false, not, ◌&&◌}
use lib.Dec.{T, ltb, leb, eqb, eqb→eq}
use borrow.Author.Tests.{leb-true, le-ltb}
use Rattle.base.specs.Choice.{◌if◌else◌}
use Rattle.std.specs.Prelude.{if◌then◌else◌}
use Rattle.base.specs.Lists.{is, count}
use Rattle.base.proofs.Tests.{T_true, both, parts}
use Rattle.railway.specs.Ranges.{last_minute, station_ok, train_ok, minute_ok, same_station}
use Rattle.railway.specs.Edits.{plan_ok, extension_ok, report_ok, edit_ok}
use Rattle.network.specs.Networks.{stations_of, listed}
use Rattle.timetable.specs.Visits.{lacks_in, lacks_out, with_in, with_out, planned, amended, arrived_at, departed_at, first_stands, last_stands, alters}
use Rattle.timetable.specs.Tables.{Table, visit_of, has_relation, add_relation, drop_relation, without, full_relations}
use Rattle.timetable.specs.Reports.{ahead, future}
use Rattle.timetable.specs.EditsFile.{minute_of}
use Rattle.timetable.specs.Machine.{Timetable, put, Action, Meaning, local, throughout, as_it_was, meaning, known, refused_as, edit_refusal, sound, refusal, changed, removed_by, answer, after}
use Rattle.theory.specs.Types.{Station, Network, Deletion, Report}
use Rattle.theory.specs.Types.{Edit, Place, Prepend, Append, DeleteFirst, DeleteLast, Amend}
use Rattle.theory.specs.Types.{ReportArrival, ReportDeparture, AddRelation, RemoveRelation, DeleteTrain}
use Rattle.theory.specs.Earlier as Earlier
use Rattle.theory.specs.Releases.{early_visit, early_table, early_plan, early_extension, early_report, early_edit}
use Rattle.theory.proofs.Kept.{sound_ok}
use Rattle.theory.proofs.Forgotten.{add_early, change_early, without_early, asked_early, has_early, room_early}
use Rattle.theory.proofs.Forgotten.{lacks_in_early, lacks_out_early, first_stands_early, last_stands_early, alters_early}

-- the timetable without its marks
abbrev pub early : Timetable → Earlier.Timetable
early m = λ k. early_table (m k)

-- meanings

-- b is to tables without their marks what a is to tables
record Alike (a : Action) (b : Earlier.Action) : Type 0 where
  home : b.home ≡ a.home
  away : b.away ≡ a.away
  fits : (n : Network) → b.fits n ≡ a.fits n
  refuses : (n : Network) (here there : Table) → b.refuses (early_table here) (early_table there) ≡ a.refuses n here there
  here : (tab : Table) → early_table (a.here tab) ≡ b.here (early_table tab)
  there : (tab : Table) → early_table (a.there tab) ≡ b.there (early_table tab)
  removes : b.removes ≡ a.removes

abbrev Same : Meaning → Earlier.Meaning → Type 0
Same (local a) (Earlier.local b) = Alike a b
Same (throughout t) (Earlier.throughout u) = u ≡ t
Same (local a) (Earlier.throughout u) = ⊥
Same (throughout t) (Earlier.local b) = ⊥

-- what deletions are refused with
first_refused : (d : Deletion) (here there : Table)
    → is (λ v. is (Earlier.first_stands d.station d.other v) (Earlier.visit_of d.train (early_table there))) (Earlier.visit_of d.train (early_table here))
    ≡ is (λ v. is (first_stands d.station d.other v) (visit_of d.train there)) (visit_of d.train here)
first_refused d here there =
    asked_early d.train (λ v. is (first_stands d.station d.other v) (visit_of d.train there))
    (λ v. is (Earlier.first_stands d.station d.other v) (Earlier.visit_of d.train (early_table there)))
    (λ v. asked_early d.train (first_stands d.station d.other v) (Earlier.first_stands d.station d.other (early_visit v)) (first_stands_early d.station d.other v) there) here

last_refused : (d : Deletion) (here there : Table)
    → is (λ v. is (Earlier.last_stands d.station d.other v) (Earlier.visit_of d.train (early_table there))) (Earlier.visit_of d.train (early_table here))
    ≡ is (λ v. is (last_stands d.station d.other v) (visit_of d.train there)) (visit_of d.train here)
last_refused d here there =
    asked_early d.train (λ v. is (last_stands d.station d.other v) (visit_of d.train there))
    (λ v. is (Earlier.last_stands d.station d.other v) (Earlier.visit_of d.train (early_table there)))
    (λ v. asked_early d.train (last_stands d.station d.other v) (Earlier.last_stands d.station d.other (early_visit v)) (last_stands_early d.station d.other v) there) here

same_meaning : (e : Edit) → Same (meaning e) (Earlier.meaning (early_edit e))
unfolding meaning as_it_was with_in with_out planned amended arrived_at departed_at has_relation add_relation drop_relation full_relations
    Earlier.meaning Earlier.as_it_was Earlier.with_in Earlier.with_out Earlier.planned Earlier.amended Earlier.arrived_at Earlier.departed_at Earlier.has_relation Earlier.with_relation Earlier.drop_relation
    early_visit early_plan early_extension early_report early_edit early_table
same_meaning (Place p) = record {
  home = refl;
  away = refl;
  fits = λ n. refl;
  refuses = λ n here there. rw (has_early p.train here, room_early n p.station here);
  here = add_early p.train _ _ refl;
  there = λ tab. refl;
  removes = refl;
}
same_meaning (Prepend x) = record {
  home = refl;
  away = refl;
  fits = λ n. refl;
  refuses = λ n here there.
      rw (has_early x.plan.train here, has_early x.plan.train there, asked_early x.plan.train lacks_in Earlier.lacks_in lacks_in_early there, room_early n x.plan.station here);
  here = add_early x.plan.train _ _ refl;
  there = change_early x.plan.train _ _ (λ v. refl);
  removes = refl;
}
same_meaning (Append x) = record {
  home = refl;
  away = refl;
  fits = λ n. refl;
  refuses = λ n here there.
      rw (has_early x.plan.train here, has_early x.plan.train there, asked_early x.plan.train lacks_out Earlier.lacks_out lacks_out_early there, room_early n x.plan.station here);
  here = add_early x.plan.train _ _ refl;
  there = change_early x.plan.train _ _ (λ v. refl);
  removes = refl;
}
same_meaning (DeleteFirst d) = record {
  home = refl;
  away = refl;
  fits = λ n. refl;
  refuses = λ n here there. rw (has_early d.train here, has_early d.train there, first_refused d here there);
  here = without_early d.train;
  there = change_early d.train _ _ (λ v. refl);
  removes = refl;
}
same_meaning (DeleteLast d) = record {
  home = refl;
  away = refl;
  fits = λ n. refl;
  refuses = λ n here there. rw (has_early d.train here, has_early d.train there, last_refused d here there);
  here = without_early d.train;
  there = change_early d.train _ _ (λ v. refl);
  removes = refl;
}
same_meaning (Amend p) = record {
  home = refl;
  away = refl;
  fits = λ n. refl;
  refuses = λ n here there. rw (has_early p.train here, asked_early p.train (alters p) (Earlier.alters (early_plan p)) (alters_early p) here);
  here = change_early p.train _ _ (λ v. refl);
  there = λ tab. refl;
  removes = refl;
}
same_meaning (ReportArrival r) = record {
  home = refl;
  away = refl;
  fits = λ n. refl;
  refuses = λ n here there. rw (has_early r.train here);
  here = change_early r.train _ _ (λ v. refl);
  there = λ tab. refl;
  removes = refl;
}
same_meaning (ReportDeparture r) = record {
  home = refl;
  away = refl;
  fits = λ n. refl;
  refuses = λ n here there. rw (has_early r.train here);
  here = change_early r.train _ _ (λ v. refl);
  there = λ tab. refl;
  removes = refl;
}
same_meaning (AddRelation r) = record {
  home = refl;
  away = refl;
  fits = λ n. refl;
  refuses = λ n here there. refl;
  here = λ tab. refl;
  there = λ tab. refl;
  removes = refl;
}
same_meaning (RemoveRelation r) = record {
  home = refl;
  away = refl;
  fits = λ n. refl;
  refuses = λ n here there. refl;
  here = λ tab. refl;
  there = λ tab. refl;
  removes = refl;
}
same_meaning (DeleteTrain c) = refl

-- the step

module _ (n : Network) (m : Timetable) where
  refused_alike : (μ : Meaning) (ν : Earlier.Meaning) → Same μ ν → Earlier.refused_as n ν (early m) ≡ refused_as n μ m
  unfolding refused_as Earlier.refused_as known
  refused_alike (local a) (Earlier.local b) s =
      rw (s.home, s.away, s.fits n) (ap (λ (r : ℕ). 7 if not ((listed n a.home && listed n a.away) && a.fits n) else r) (s.refuses n (m a.home) (m a.away)))
  refused_alike (throughout t) (Earlier.throughout u) s = refl
  refused_alike (local a) (Earlier.throughout u) s = absurd s
  refused_alike (throughout t) (Earlier.local b) s = absurd s

  removed_alike : (μ : Meaning) (ν : Earlier.Meaning) → Same μ ν → Earlier.removed_by n ν (early m) ≡ removed_by n μ m
  unfolding removed_by Earlier.removed_by
  removed_alike (local a) (Earlier.local b) s = s.removes
  removed_alike (throughout t) (Earlier.throughout u) s =
      rw s (ap (λ (f : Station → Bool). count f (stations_of n)) (fun_ext λ k. has_early t (m k)))
  removed_alike (local a) (Earlier.throughout u) s = absurd s
  removed_alike (throughout t) (Earlier.local b) s = absurd s

  changed_alike : (μ : Meaning) (ν : Earlier.Meaning) → Same μ ν → (k : Station) → Earlier.changed n ν (early m) k ≡ early_table (changed n μ m k)
  unfolding changed Earlier.changed put Earlier.put
  changed_alike (local a) (Earlier.local b) s k =
      rw (s.home, s.away, ← s.here (m a.home), ← s.there (m a.away)) (go (same_station k a.home) (same_station k a.away))
    where
      go : (x y : Bool) → (if x then early_table (a.here (m a.home)) else if y then early_table (a.there (m a.away)) else early_table (m k))
          ≡ early_table (if x then a.here (m a.home) else if y then a.there (m a.away) else m k)
      go true y = refl
      go false true = refl
      go false false = refl
  changed_alike (throughout t) (Earlier.throughout u) s k = rw (s, ← without_early t (m k)) (go (listed n k))
    where
      go : (b : Bool) → (if b then early_table (without t (m k)) else early_table (m k)) ≡ early_table (if b then without t (m k) else m k)
      go true = refl
      go false = refl
  changed_alike (local a) (Earlier.throughout u) s k = absurd s
  changed_alike (throughout t) (Earlier.local b) s k = absurd s

-- an edit's own values

-- both releases judge them alike
abbrev pub Judged : Edit → Type 0
Judged e = edit_refusal e ≡ (3 if not (Earlier.edit_ok (early_edit e)) else 0)

-- a report whose minute is the last: no minute is later
last_judged : (r : Report) → r.present.0 ≡ last_minute
    → (3 if not (report_ok r) else 15 if ahead r else 0) ≡ (3 if not (Earlier.report_ok (early_report r)) else 0)
unfolding report_ok ahead Earlier.report_ok early_report
last_judged r q = rw q (go (station_ok r.station) (train_ok r.train) r.time.0)
  where
    in_time : (t : ℕ) (b : Bool) → leb t last_minute ≡ b → (3 if not (b && true) else 15 if ltb last_minute t else 0) ≡ (3 if not b else 0)
    in_time t true e = rw (le-ltb last_minute t (leb-true t last_minute e))
    in_time t false e = refl

    go : (x y : Bool) (t : ℕ) → (3 if not ((x && y) && (leb t last_minute && leb last_minute last_minute)) else 15 if ltb last_minute t else 0)
        ≡ (3 if not (x && (y && leb t last_minute)) else 0)
    go true true t = in_time t (leb t last_minute) refl
    go true false t = refl
    go false y t = refl

pub judged_last : (e : Edit) → minute_of e ≡ last_minute → Judged e
unfolding edit_refusal future edit_ok plan_ok extension_ok Earlier.edit_ok Earlier.plan_ok Earlier.extension_ok early_plan early_extension early_edit minute_of
judged_last (Place p) q = refl
judged_last (Prepend x) q = refl
judged_last (Append x) q = refl
judged_last (DeleteFirst d) q = refl
judged_last (DeleteLast d) q = refl
judged_last (Amend p) q = refl
judged_last (ReportArrival r) q = last_judged r q
judged_last (ReportDeparture r) q = last_judged r q
judged_last (AddRelation r) q = refl
judged_last (RemoveRelation r) q = refl
judged_last (DeleteTrain c) q = refl

-- what is in range is in range without its minute
early_ok : (e : Edit) → T (edit_ok e) → T (Earlier.edit_ok (early_edit e))
unfolding edit_ok plan_ok extension_ok report_ok Earlier.edit_ok Earlier.plan_ok Earlier.extension_ok Earlier.report_ok early_plan early_extension early_report early_edit
early_ok (Place p) t = t
early_ok (Prepend x) t = t
early_ok (Append x) t = t
early_ok (DeleteFirst d) t = t
early_ok (DeleteLast d) t = t
early_ok (Amend p) t = t
early_ok (ReportArrival r) t = both (station_ok r.station) _ (search parts) (both (train_ok r.train) (minute_ok r.time) (search parts) (search parts))
early_ok (ReportDeparture r) t = both (station_ok r.station) _ (search parts) (both (train_ok r.train) (minute_ok r.time) (search parts) (search parts))
early_ok (AddRelation r) t = t
early_ok (RemoveRelation r) t = t
early_ok (DeleteTrain c) t = t

pub judged_sound : (e : Edit) → T (sound e) → Judged e
judged_sound e t = eqb→eq (edit_refusal e) 0 t ∙ sym (rw (T_true (Earlier.edit_ok (early_edit e)) (early_ok e (sound_ok e t))))

module _ (n : Network) (e : Edit) (m : Timetable) (judged : Judged e) where
  refusal_early : Earlier.refusal n (early_edit e) (early m) ≡ refusal n e m
  unfolding refusal Earlier.refusal
  refusal_early = rw (judged, refused_alike n m (meaning e) (Earlier.meaning (early_edit e)) (same_meaning e)) (go (Earlier.edit_ok (early_edit e)))
    where
      go : (b : Bool) → (3 if not b else refused_as n (meaning e) m) ≡ (if eqb (3 if not b else 0) 0 then refused_as n (meaning e) m else (3 if not b else 0))
      go true = refl
      go false = refl

  -- the older machine's answer is the newer one's
  pub answer_early : Earlier.answer n (early_edit e) (early m) ≡ answer n e m
  unfolding answer Earlier.answer
  answer_early = rw (refusal_early, removed_alike n m (meaning e) (Earlier.meaning (early_edit e)) (same_meaning e))

  -- and so is the table that it leaves, marks aside
  pub after_early : (k : Station) → Earlier.after n (early_edit e) (early m) k ≡ early_table (after n e m k)
  unfolding after Earlier.after
  after_early k = rw refusal_early (go (eqb (refusal n e m) 0))
    where
      go : (b : Bool) → (if b then Earlier.changed n (Earlier.meaning (early_edit e)) (early m) else early m) k ≡ early_table ((if b then changed n (meaning e) m else m) k)
      go true = changed_alike n m (meaning e) (Earlier.meaning (early_edit e)) (same_meaning e) k
      go false = refl
