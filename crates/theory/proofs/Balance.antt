-- Over every list of edits that the tally counts in full, visits at the start plus added less removed are the visits at
-- the end: each edit balances at each station, since a train has one visit there at most, so it balances in sum over
-- the stations, each listed once; then by induction on the list, from any tally. Assumes nothing.
use Prim.Native.Nat.{ℕ, suc, ◌+◌}
use mathlib.Core.Path.{◌≡◌, refl, sym, ◌∙◌, ap}
use mathlib.Core.Bool.{Bool, true, false, not, ◌&&◌, ◌||◌}
use mathlib.Core.List.{List, [], ◌∷◌}
use native.Mathlib.Omega.{arith}
use lib.Dec.{T, ltb, eqb, eqb→eq}
use lib.ListN.{length}
use borrow.Author.Tests.{eqb-true, ltb-false}
use Rattle.base.specs.Choice.{◌if◌else◌}
use Rattle.std.specs.Prelude.{if◌then◌else◌}
use Rattle.base.specs.Lists.{each_two, sum}
use Rattle.base.specs.Runs.{run, answers}
use Rattle.base.proofs.Tests.{T_true, true_T, if_yes, and_l, parts, rest_passed, held}
use Rattle.base.proofs.Counts.{sum_balance, sum_zero, count_sum}
use Rattle.base.proofs.Sorted.{smaller, sum_once}
use Rattle.railway.specs.declared.sorts.Train.{Train}
use Rattle.railway.specs.declared.edit.Edit.TheVariants.{Place, Prepend, Append, DeleteFirst, DeleteLast, Amend}
use Rattle.railway.specs.declared.edit.Edit.TheVariants.{ReportArrival, ReportDeparture, AddRelation, RemoveRelation, DeleteTrain}
use Rattle.railway.specs.Ranges.{same_station}
use Rattle.network.specs.Networks.{stations_of, listed}
use Rattle.network.proofs.NetworkLaws.{station_number, network_facts, stations_listed}
use Rattle.timetable.specs.Tables.{Table, has_visit, add_relation, drop_relation, without}
use Rattle.timetable.specs.Machine.{Timetable, put, Action, Meaning, local, throughout, as_it_was, meaning, known, refused_as, refusal, changed, removed_by, added_by, answer, after}
use Rattle.timetable.specs.Good.{Whole}
use Rattle.timetable.specs.Refusals.{or_else, call_refusal}
use Rattle.timetable.specs.Count.{zero_tally, overfull, unlikely, raise_refusal, raised, raise, raise_all, counts_in_full, visit_count}
use Rattle.timetable.proofs.Locality.{same_station_equal}
use Rattle.timetable.proofs.TableLaws.{number, table_facts, add_visit_length, change_visit_length, without_length}
use Rattle.theory.specs.Types.{Station, Edit, Network, Answer, Tally}
use Rattle.theory.specs.Statements.{TallyBalances}
use Rattle.theory.proofs.Kept.{accepted_sound, after_whole}

abbrev size : Table → ℕ
size tab = length tab.visits

-- the visits rise by train, so none is there twice
abbrev Ordered : Table → Type 0
Ordered tab = T (each_two (smaller number) tab.visits)

-- edits 4 and 5, not refused, take out a visit that was there
takes_one : (t : Train) (here there : Table) (r : ℕ) → Ordered here → (9 if not (has_visit t here && has_visit t there) else r) ≡ 0 → size (without t here) + 1 ≡ size here
takes_one t here there r o e =
    let present : T (has_visit t here) = and_l (has_visit t here) (has_visit t there) (held 8 (has_visit t here && has_visit t there) r e) in
    rw (T_true (has_visit t here) present) at (without_length t here o)

-- each edit at its two tables

record BalancesTables (a : Action) : Type 0 where
  here : (n : Network) (here there : Table) → Ordered here → a.refuses n here there ≡ 0 → size (a.here here) + a.removes ≡ size here + a.adds
  there : (tab : Table) → size (a.there tab) ≡ size tab

abbrev Balancing : Meaning → Type 0
Balancing (local a) = BalancesTables a
Balancing (throughout t) = Unit {0}

grows : (s k : ℕ) → k ≡ suc s → k + 0 ≡ s + 1
grows s k e = omega arith

stays : (s k : ℕ) → k ≡ s → k + 0 ≡ s + 0
stays s k e = omega arith

shrinks : (s k : ℕ) → k + 1 ≡ s → k + 1 ≡ s + 0
shrinks s k e = omega arith

balances_each : (e : Edit) → Balancing (meaning e)
unfolding meaning as_it_was add_relation drop_relation
balances_each (Place p) = record { here = λ n here there o r. grows (size here) _ (add_visit_length p.train _ here); there = λ tab. refl }
balances_each (Prepend x) = record {
  here = λ n here there o r. grows (size here) _ (add_visit_length x.plan.train _ here);
  there = λ tab. change_visit_length x.plan.train _ tab;
}
balances_each (Append x) = record {
  here = λ n here there o r. grows (size here) _ (add_visit_length x.plan.train _ here);
  there = λ tab. change_visit_length x.plan.train _ tab;
}
balances_each (DeleteFirst d) = record {
  here = λ n here there o r. shrinks (size here) _ (takes_one d.train here there _ o r);
  there = λ tab. change_visit_length d.train _ tab;
}
balances_each (DeleteLast d) = record {
  here = λ n here there o r. shrinks (size here) _ (takes_one d.train here there _ o r);
  there = λ tab. change_visit_length d.train _ tab;
}
balances_each (Amend p) = record { here = λ n here there o r. stays (size here) _ (change_visit_length p.train _ here); there = λ tab. refl }
balances_each (ReportArrival q) = record { here = λ n here there o r. stays (size here) _ (change_visit_length q.train _ here); there = λ tab. refl }
balances_each (ReportDeparture q) = record { here = λ n here there o r. stays (size here) _ (change_visit_length q.train _ here); there = λ tab. refl }
balances_each (AddRelation q) = record { here = λ n here there o r. refl; there = λ tab. refl }
balances_each (RemoveRelation q) = record { here = λ n here there o r. refl; there = λ tab. refl }
balances_each (DeleteTrain c) = tt

-- the stations

-- r at the station k, 0 elsewhere
abbrev at_only : Station → ℕ → Station → ℕ
at_only k r s = r if same_station s k else 0

-- one edit over all stations

module _ (n : Network) (rise : T (each_two (smaller station_number) (stations_of n))) (m : Timetable) (w : Whole n m) where
  ordered : (s : Station) → T (listed n s) → Ordered (m s)
  ordered s l = (table_facts n s (m s) (w.good s l)).visits.order

  local_size : (a : Action) → BalancesTables a → T (listed n a.home) → a.refuses n (m a.home) (m a.away) ≡ 0 → (s : Station)
      → size (changed n (local a) m s) + at_only a.home a.removes s ≡ size (m s) + at_only a.home a.adds s
  unfolding changed put
  local_size a bal h r s = go (same_station s a.home) refl (same_station s a.away) refl
    where
      go : (x : Bool) → same_station s a.home ≡ x → (y : Bool) → same_station s a.away ≡ y
          → size (if x then a.here (m a.home) else if y then a.there (m a.away) else m s) + (a.removes if x else 0) ≡ size (m s) + (a.adds if x else 0)
      go true p y q =
          bal.here n (m a.home) (m a.away) (ordered a.home h) r
          ∙ ap (λ (k : Station). size (m k) + a.adds) (sym (same_station_equal s a.home (true_T (same_station s a.home) p)))
      go false p true q =
          ap (λ (k : ℕ). k + 0) (bal.there (m a.away) ∙ ap (λ (k : Station). size (m k)) (sym (same_station_equal s a.away (true_T (same_station s a.away) q))))
      go false p false q = refl

  sizes : (μ : Meaning) → Balancing μ → refused_as n μ m ≡ 0
      → sum (λ s. size (changed n μ m s)) (stations_of n) + removed_by n μ m ≡ sum (λ s. size (m s)) (stations_of n) + added_by μ
  unfolding changed removed_by added_by refused_as known listed
  sizes (local a) bal r =
      let known-here : T (known n a) = held 6 (known n a) (a.refuses n (m a.home) (m a.away)) r in
      let home : T (listed n a.home) = search parts in
      let fine : a.refuses n (m a.home) (m a.away) ≡ 0 = rest_passed 6 (not (known n a)) (a.refuses n (m a.home) (m a.away)) r in
      omega (
        arith,
        sum_once station_number a.home.0 a.removes (stations_of n) rise home,
        sum_once station_number a.home.0 a.adds (stations_of n) rise home,
        sum_balance (listed n) (λ s. size (changed n (local a) m s)) (λ s. size (m s)) (at_only a.home a.removes) (at_only a.home a.adds)
            (λ s l. local_size a bal home fine s) (stations_of n) (stations_listed n),
      )
  sizes (throughout t) bal r = omega (
    arith,
    count_sum (λ s. has_visit t (m s)) (stations_of n),
    sum_zero (λ s. 0) (listed n) (λ s l. refl) (stations_of n) (stations_listed n),
    sum_balance (listed n) (λ s. size (changed n (throughout t) m s)) (λ s. size (m s)) (λ s. 1 if has_visit t (m s) else 0) (λ s. 0)
        (λ s l. taken s l (listed n s) l) (stations_of n) (stations_listed n),
  )
    where
      taken : (s : Station) → T (listed n s) → (b : Bool) → T b → size (if b then without t (m s) else m s) + (1 if has_visit t (m s) else 0) ≡ size (m s) + 0
      taken s l true p = omega (arith, without_length t (m s) (ordered s l))
      taken s l false p = absurd p

  -- "visits at the start plus added less removed are the visits at the end", for one edit, accepted or refused
  pub one_balances : (e : Edit) → visit_count n (after n e m) + (answer n e m).removed ≡ visit_count n m + (added_by (meaning e) if eqb (answer n e m).refusal 0 else 0)
  unfolding visit_count after answer
  one_balances e = go (eqb (refusal n e m) 0) refl
    where
      go : (b : Bool) → eqb (refusal n e m) 0 ≡ b
          → sum (λ s. size ((if b then changed n (meaning e) m else m) s)) (stations_of n) + (if b then removed_by n (meaning e) m else 0)
          ≡ sum (λ s. size (m s)) (stations_of n) + (added_by (meaning e) if b else 0)
      go true p = sizes (meaning e) (balances_each e) (accepted_sound n e m (eqb-true (refusal n e m) 0 p)).1
      go false p = refl

-- the tally

-- an answer that is counted raises the tally by what it says
record Raised (y : Tally) (e : Edit) (a : Answer) : Type 0 where
  added : (raise y e a).added ≡ y.added + (added_by (meaning e) if eqb a.refusal 0 else 0)
  removed : (raise y e a).removed ≡ y.removed + a.removed

raised_by : (y : Tally) (e : Edit) (a : Answer) → unlikely a ≡ false
    → ((raised y e a).added ≡ y.added + (added_by (meaning e) if eqb a.refusal 0 else 0)) × ((raised y e a).removed ≡ y.removed + a.removed)
unfolding raised unlikely
raised_by y e a h = go (eqb a.refusal 0) (eqb a.refusal 5) h
  where
    second : (b c : Bool) → (b || c) ≡ false → c ≡ false
    second true c p = absurd (true_T false (sym p))
    second false c p = p

    more : Tally
    more = record { accepted = y.accepted + 1; refused = y.refused; added = y.added + added_by (meaning e); removed = y.removed + a.removed }

    fewer : Tally
    fewer = record { accepted = y.accepted; refused = y.refused + 1; added = y.added; removed = y.removed }

    go : (b c : Bool) → (ltb 16 a.removed || (not b && ltb 0 a.removed)) ≡ false
        → ((if b then more else if c then y else fewer).added ≡ y.added + (added_by (meaning e) if b else 0))
        × ((if b then more else if c then y else fewer).removed ≡ y.removed + a.removed)
    go true c u = (refl, refl)
    go false true u = (omega arith, omega (arith, ltb-false 0 a.removed (second (ltb 16 a.removed) (ltb 0 a.removed) u)))
    go false false u = (omega arith, omega (arith, ltb-false 0 a.removed (second (ltb 16 a.removed) (ltb 0 a.removed) u)))

-- what is counted is not unlikely
likely_of : (o u : Bool) → call_refusal (not o) (3 if u else 0) true 0 ≡ 0 → u ≡ false
unfolding call_refusal or_else
likely_of true u e = absurd (omega (arith, e))
likely_of false true e = absurd (omega (arith, e))
likely_of false false e = refl

counted : (y : Tally) (e : Edit) (a : Answer) → T (eqb (raise_refusal y a) 0) → Raised y e a
unfolding raise raise_refusal
counted y e a h =
    let plain : raise y e a ≡ raised y e a = if_yes (eqb (raise_refusal y a) 0) (raised y e a) y h in
    let likely : unlikely a ≡ false = likely_of (overfull y) (unlikely a) (eqb→eq (raise_refusal y a) 0 h) in
    record {
      added = ap (λ (x : Tally). x.added) plain ∙ (raised_by y e a likely).0;
      removed = ap (λ (x : Tally). x.removed) plain ∙ (raised_by y e a likely).1;
    }

-- a list of edits, from any tally
pub list_balances : (n : Network) → T (each_two (smaller station_number) (stations_of n)) → (es : List Edit) (m : Timetable) (y : Tally) → Whole n m
    → T (counts_in_full y es (answers (after n) (answer n) es m))
    → visit_count n m + ((raise_all y es (answers (after n) (answer n) es m)).added + y.removed)
    ≡ visit_count n (run (after n) es m) + ((raise_all y es (answers (after n) (answer n) es m)).removed + y.added)
unfolding run answers raise_all counts_in_full
list_balances n rise [] m y w t = omega arith
list_balances n rise (e ∷ es) m y w t =
    let up : Raised y e (answer n e m) = counted y e (answer n e m) (search parts) in
    omega (
      arith,
      one_balances n rise m w e,
      list_balances n rise es (after n e m) (raise y e (answer n e m)) (after_whole n m e w) (search parts),
    )

pub balances : TallyBalances
unfolding zero_tally
balances n g m w es = record { balance = λ t. omega (arith, list_balances n (network_facts n g).stations_rise es m zero_tally w t) }
