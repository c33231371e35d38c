-- What an edit's own values refuse it with is decided before the network or a table is asked (`edit_refusal`), and a
-- report's meaning does not look at its minute: so 15 depends on the edit alone, and two minutes that do not refuse a
-- report give the same answer and the same tables. With the last minute both releases judge alike (Forgetting). Assumes
-- nothing.
use Prim.Native.Nat.{◌≤◌}
use mathlib.Core.Path.{◌≡◌, refl, fun_ext}
use mathlib.Core.Bool.{Bool, true, false, not}
use native.Mathlib.Omega.{arith}
use lib.Dec.{T}
use borrow.Author.Tests.{ltb-false, le-ltb}
use Rattle.base.specs.Choice.{◌if◌else◌}
use Rattle.base.proofs.Tests.{by_value, T_true, true_T}
use Rattle.railway.specs.Ranges.{minute_ok}
use Rattle.railway.specs.Edits.{report_ok, edit_ok}
use Rattle.timetable.specs.Reports.{ahead, future}
use Rattle.timetable.specs.Machine.{Timetable, meaning, edit_refusal, sound, refusal, answer, after}
use Rattle.timetable.specs.Groups.{names}
use Rattle.timetable.proofs.Locality.{tables_past, others_kept}
use Rattle.theory.specs.Types.{Station, Minute, Report, Edit, ReportArrival, ReportDeparture, Network}
use Rattle.theory.specs.Reports.{FutureIsRefused, AcceptedIsPast, carrying, SameEdit, MinuteIsNotKept, LastMinuteAsBefore}
use Rattle.theory.proofs.Kept.{accepted_sound}
use Rattle.theory.proofs.Forgetting.{judged_last, answer_early, after_early}

-- an edit's own values

module _ (e : Edit) where
  pub own_future : T (edit_ok e) → T (future e) → edit_refusal e ≡ 15
  unfolding edit_refusal
  own_future ok t = rw (T_true (edit_ok e) ok, T_true (future e) t)

  unsound : T (future e) → sound e ≡ false
  unfolding edit_refusal
  unsound t = by_value (edit_ok e) (λ q. rw (q, T_true (future e) t)) (λ q. rw q)

  own_only : edit_refusal e ≡ 15 → T (edit_ok e) × T (future e)
  unfolding edit_refusal
  own_only q = go (edit_ok e) (future e) q
    where
      go : (a b : Bool) → (3 if not a else 15 if b else 0) ≡ 15 → T a × T b
      go true true r = (tt, tt)
      go true false r = absurd (omega (arith, r))
      go false b r = absurd (omega (arith, r))

  pub past : T (sound e) → future e ≡ false
  past s = by_value (future e) (λ q. absurd (rw (unsound (true_T (future e) q)) at s)) (λ q. q)

module _ (n : Network) (e : Edit) (m : Timetable) where
  refused : T (edit_ok e) → T (future e) → answer n e m ≡ record { refusal = 15; removed = 0 }
  unfolding answer refusal
  refused ok t = rw (own_future e ok t)

  only : refusal n e m ≡ 15 → T (edit_ok e) × T (future e)
  unfolding refusal
  only q = by_value (sound e)
      (λ s. absurd (tables_past n e m (rw s at q)))
      (λ s. own_only e (rw s at q))

  none : T (future e) → (k : Station) → ¬ T (names n e k)
  unfolding names
  none t k u = rw (unsound e t) at u

-- THEOREM. 15 just for a report from the future, whatever the network and the timetable
pub future_refused : FutureIsRefused
future_refused n e m = record {
  refused = refused n e m;
  only_then = only n e m;
  names_none = none n e m;
  kept = λ t. fun_ext λ k. others_kept n e m k (none n e m t k);
}

-- THEOREM. A report that is taken is not after its minute
pub accepted_past : AcceptedIsPast
unfolding future ahead
accepted_past n r m = record {
  arrival = λ q. ltb-false r.present.0 r.time.0 (past (ReportArrival r) (accepted_sound n (ReportArrival r) m q).0);
  departure = λ q. ltb-false r.present.0 r.time.0 (past (ReportDeparture r) (accepted_sound n (ReportDeparture r) m q).0);
}

-- what is not after a minute of the day is judged alike with every such minute

module _ (n : Network) (m : Timetable) (e f : Edit) (own : edit_refusal e ≡ edit_refusal f) (same : meaning e ≡ meaning f) where
  refusal_same : refusal n e m ≡ refusal n f m
  unfolding refusal
  refusal_same = rw (own, same)

  same_edit : SameEdit n e f m
  unfolding answer after
  same_edit = record { answers = rw (refusal_same, same); leaves = rw (refusal_same, same) }

own_same : (r : Report) (p q : Minute) → T (minute_ok p) → T (minute_ok q) → r.time.0 ≤ p.0 → r.time.0 ≤ q.0
    → (3 if not (report_ok (carrying p r)) else 15 if ahead (carrying p r) else 0) ≡ (3 if not (report_ok (carrying q r)) else 15 if ahead (carrying q r) else 0)
unfolding report_ok ahead carrying
own_same r p q a b c d = rw (T_true (minute_ok p) a, T_true (minute_ok q) b, le-ltb p.0 r.time.0 c, le-ltb q.0 r.time.0 d)

module _ (r : Report) (p q : Minute) where
  pub own_arrival : T (minute_ok p) → T (minute_ok q) → r.time.0 ≤ p.0 → r.time.0 ≤ q.0
      → edit_refusal (ReportArrival (carrying p r)) ≡ edit_refusal (ReportArrival (carrying q r))
  unfolding edit_refusal edit_ok future
  own_arrival = own_same r p q

  pub own_departure : T (minute_ok p) → T (minute_ok q) → r.time.0 ≤ p.0 → r.time.0 ≤ q.0
      → edit_refusal (ReportDeparture (carrying p r)) ≡ edit_refusal (ReportDeparture (carrying q r))
  unfolding edit_refusal edit_ok future
  own_departure = own_same r p q

  pub arrival_means : meaning (ReportArrival (carrying p r)) ≡ meaning (ReportArrival (carrying q r))
  unfolding meaning carrying
  arrival_means = refl

  pub departure_means : meaning (ReportDeparture (carrying p r)) ≡ meaning (ReportDeparture (carrying q r))
  unfolding meaning carrying
  departure_means = refl

-- THEOREM. The minute is not kept
pub minute_not_kept : MinuteIsNotKept
minute_not_kept n r m p q a b c d = (
  same_edit n m (ReportArrival (carrying p r)) (ReportArrival (carrying q r)) (own_arrival r p q a b c d) (arrival_means r p q),
  same_edit n m (ReportDeparture (carrying p r)) (ReportDeparture (carrying q r)) (own_departure r p q a b c d) (departure_means r p q),
)

-- THEOREM. With the last minute as before
pub last_as_before : LastMinuteAsBefore
last_as_before n e m q = record { same_answer = answer_early n e m (judged_last e q); same_tables = after_early n e m (judged_last e q) }
