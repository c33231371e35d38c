-- Tables without marks: forgetting the marks of such a table loses nothing, and an edit keeps them at the stations of a
-- group where it is refused or does not mark there. Only the table of s gets the edit's own mark; that of p, and every
-- other change, keeps the marks of its visits. Assumes nothing.
use Prim.Native.Nat.{ℕ}
use mathlib.Core.Path.{◌≡◌, refl, sym, ap₂}
use mathlib.Core.Bool.{Bool, true, false, not, ◌&&◌, ◌||◌}
use mathlib.Core.List.{List, [], ◌∷◌, map}
use lib.Dec.{T, eqb}
use Rattle.base.specs.Choice.{◌if◌else◌}
use Rattle.std.specs.Prelude.{if◌then◌else◌}
use Rattle.base.specs.Lists.{every}
use Rattle.base.proofs.Tests.{true_T, not_T_false, every_head, every_tail, every_keep, every_mapped}
use Rattle.railway.specs.Ranges.{same_station, same_train}
use Rattle.network.specs.Networks.{listed}
use Rattle.timetable.specs.Visits.{with_in, with_out, planned, amended, arrived_at, departed_at}
use Rattle.timetable.specs.Tables.{Entry, Table, add_visit, change_entry, change_visit, add_relation, drop_relation, without}
use Rattle.timetable.specs.Machine.{Timetable, put, Action, Meaning, local, throughout, as_it_was, meaning, refusal, changed, answer, after}
use Rattle.timetable.specs.EditsFile.{mark_of}
use Rattle.timetable.specs.Groups.{Grouping, in_group}
use Rattle.timetable.proofs.Locality.{same_station_equal}
use Rattle.timetable.proofs.TableLaws.{enter_every}
use Rattle.theory.specs.Types.{Train, Visit, Network}
use Rattle.theory.specs.Types.{Edit, Place, Prepend, Append, DeleteFirst, DeleteLast, Amend}
use Rattle.theory.specs.Types.{ReportArrival, ReportDeparture, AddRelation, RemoveRelation, DeleteTrain}
use Rattle.theory.specs.Earlier as Earlier
use Rattle.theory.specs.Releases.{early_visit, early_table, unmarked_visit, unmarked_table, UnmarkedThere, marks_there}
use Rattle.theory.proofs.Forgotten.{early_entry}

abbrev unmarked_entry : Entry → Bool
unmarked_entry e = not e.visit.marked

-- no visit of the table is marked
abbrev plain : Table → Bool
plain tab = every unmarked_entry tab.visits

-- there and back

abbrev late_entry : Earlier.Entry → Entry
late_entry e = record { train = e.train; visit = unmarked_visit e.visit }

visit_back : (v : Visit) → v.marked ≡ false → unmarked_visit (early_visit v) ≡ v
unfolding early_visit unmarked_visit
visit_back v q = λ i. record {
  track = v.track;
  marked = sym q i;
  arrival = v.arrival;
  arrived = v.arrived;
  departure = v.departure;
  departed = v.departed;
  inward = v.inward;
  outward = v.outward;
}

entries_back : (es : List Entry) → T (every unmarked_entry es) → map late_entry (map early_entry es) ≡ es
entries_back [] t = refl
entries_back (e ∷ es) t =
    ap₂ (λ (v : Visit) (l : List Entry). record { train = e.train; visit = v } ∷ l)
    (visit_back e.visit (not_T_false e.visit.marked (every_head unmarked_entry e es t)))
    (entries_back es (every_tail unmarked_entry e es t))

-- the older room's table of a table without marks, handed over with mark 0, is that table
pub table_back : (tab : Table) → T (plain tab) → unmarked_table (early_table tab) ≡ tab
unfolding early_table unmarked_table
table_back tab t = λ i. record { visits = entries_back tab.visits t i; relations = tab.relations }

-- what keeps tables without marks

add_plain : (t : Train) (v : Visit) → T (not v.marked) → (tab : Table) → T (plain tab) → T (plain (add_visit t v tab))
unfolding add_visit
add_plain t v u tab p = enter_every unmarked_entry (record { train = t; visit = v }) tab.visits u p

change_plain : (t : Train) (f : Visit → Visit) → ((v : Visit) → T (not v.marked) → T (not (f v).marked)) → (tab : Table) → T (plain tab) → T (plain (change_visit t f tab))
unfolding change_visit change_entry
change_plain t f h tab p = every_mapped unmarked_entry unmarked_entry (change_entry t f) (λ e u. go e u (same_train e.train t)) tab.visits p
  where
    go : (e : Entry) → T (unmarked_entry e) → (b : Bool) → T (unmarked_entry (if b then record { train = e.train; visit = f e.visit } else e))
    go e u true = h e.visit u
    go e u false = u

without_plain : (t : Train) (tab : Table) → T (plain tab) → T (plain (without t tab))
unfolding without
without_plain t tab p = every_keep unmarked_entry (λ e. not (same_train e.train t)) tab.visits p

-- an action with the mark b keeps them at p, and at s where b is 0
record KeepsPlain (b : Bool) (a : Action) : Type 0 where
  here : T (not b) → (tab : Table) → T (plain tab) → T (plain (a.here tab))
  there : (tab : Table) → T (plain tab) → T (plain (a.there tab))

abbrev Keeps : Bool → Meaning → Type 0
Keeps b (local a) = KeepsPlain b a
Keeps b (throughout t) = Unit {0}

keeps : (e : Edit) → Keeps (mark_of e) (meaning e)
unfolding meaning mark_of as_it_was with_in with_out planned amended arrived_at departed_at add_relation drop_relation
keeps (Place p) = record { here = λ u. add_plain p.train _ u; there = λ tab k. k }
keeps (Prepend x) = record { here = λ u. add_plain x.plan.train _ u; there = change_plain x.plan.train _ (λ v k. k) }
keeps (Append x) = record { here = λ u. add_plain x.plan.train _ u; there = change_plain x.plan.train _ (λ v k. k) }
keeps (DeleteFirst d) = record { here = λ u. without_plain d.train; there = change_plain d.train _ (λ v k. k) }
keeps (DeleteLast d) = record { here = λ u. without_plain d.train; there = change_plain d.train _ (λ v k. k) }
keeps (Amend p) = record { here = λ u. change_plain p.train _ (λ v k. u); there = λ tab k. k }
keeps (ReportArrival r) = record { here = λ u. change_plain r.train _ (λ v k. k); there = λ tab k. k }
keeps (ReportDeparture r) = record { here = λ u. change_plain r.train _ (λ v k. k); there = λ tab k. k }
keeps (AddRelation r) = record { here = λ u tab k. k; there = λ tab k. k }
keeps (RemoveRelation r) = record { here = λ u tab k. k; there = λ tab k. k }
keeps (DeleteTrain c) = tt

module _ (n : Network) (γ : Grouping) (g : ℕ) (m : Timetable) (was : UnmarkedThere n γ g m) where
  -- a mark b, and not at a station of the group
  abbrev Spares : Bool → Meaning → Type 0
  Spares b μ = T (not (b && elim μ [ local a ↦ in_group γ g a.home | throughout t ↦ false ]))

  changed_unmarked : (b : Bool) (μ : Meaning) → Keeps b μ → Spares b μ → UnmarkedThere n γ g (changed n μ m)
  unfolding changed put
  changed_unmarked b (local a) K h k t = go (same_station k a.home) refl (same_station k a.away) refl
    where
      spared : (b c : Bool) → T c → T (not (b && c)) → T (not b)
      spared true true u v = v
      spared true false u v = u
      spared false c u v = tt

      go : (x : Bool) → same_station k a.home ≡ x → (y : Bool) → same_station k a.away ≡ y
          → T (plain (if x then a.here (m a.home) else if y then a.there (m a.away) else m k))
      go true p y q =
          let inside : T (in_group γ g a.home) = rw (← same_station_equal k a.home (true_T (same_station k a.home) p)) t in
          K.here (spared b (in_group γ g a.home) inside h) (m a.home) (was a.home inside)
      go false p true q =
          let inside : T (in_group γ g a.away) = rw (← same_station_equal k a.away (true_T (same_station k a.away) q)) t in
          K.there (m a.away) (was a.away inside)
      go false p false q = was k t
  changed_unmarked b (throughout u) K h k t = go (listed n k)
    where
      go : (x : Bool) → T (plain (if x then without u (m k) else m k))
      go true = without_plain u (m k) (was k t)
      go false = was k t

  -- an edit that is refused, or does not mark at the group's stations
  pub after_unmarked : (e : Edit) → T (not (marks_there n γ g e) || not (eqb (answer n e m).refusal 0)) → UnmarkedThere n γ g (after n e m)
  unfolding after answer marks_there
  after_unmarked e h = go (eqb (refusal n e m) 0) h
    where
      left : (b : Bool) → T (b || not true) → T b
      left true u = tt
      left false u = u

      go : (z : Bool) → T (not (marks_there n γ g e) || not z) → UnmarkedThere n γ g (if z then changed n (meaning e) m else m)
      go true u = changed_unmarked (mark_of e) (meaning e) (keeps e) (left (not (marks_there n γ g e)) u)
      go false u = was
