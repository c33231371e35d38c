-- Reports from the future, of the central machine. Document 02, W7: "Reports of arrival and departure now carry the
-- present minute .. A clock that goes back is allowed, since each report is judged by its own minute. A report read in
-- W6's earlier form carries 2879. It refuses, with 15 .., a report whose event time is later than the minute it
-- carries, tested straight after 3 ..; such an edit names no area." The proofs are in proofs/ReportsJudged; nothing
-- here is proved. The letters are those of Statements; r is a report, p and q are minutes. Assumes nothing.
use Rattle.std.specs.Prelude.{◌≤◌, ◌≡◌, T}
use Rattle.railway.specs.Ranges.{last_minute, minute_ok}
use Rattle.railway.specs.Edits.{edit_ok}
use Rattle.timetable.specs.Reports.{future}
use Rattle.timetable.specs.Machine.{Timetable, refusal, answer, after}
use Rattle.timetable.specs.Groups.{names}
use Rattle.timetable.specs.EditsFile.{minute_of}
use Rattle.theory.specs.Types.{Station, Minute, Report, Edit, ReportArrival, ReportDeparture, Network}
use Rattle.theory.specs.Earlier as Earlier
use Rattle.theory.specs.Releases.{early_table, early_edit}

-- 1. An edit is refused with 15 just where its values are in range and it is a report from the future: neither the
-- network nor the timetable plays a part. It names no station and changes nothing.
pub record Judged (n : Network) (e : Edit) (m : Timetable) : Type 0 where
  pub refused : T (edit_ok e) → T (future e) → answer n e m ≡ record { refusal = 15; removed = 0 }
  pub only_then : refusal n e m ≡ 15 → T (edit_ok e) × T (future e)
  pub names_none : T (future e) → (k : Station) → ¬ T (names n e k)
  pub kept : T (future e) → after n e m ≡ m

abbrev pub FutureIsRefused : Type 0
FutureIsRefused = (n : Network) (e : Edit) (m : Timetable) → Judged n e m

-- 2. The event time of a report that is taken is not after its minute.
pub record NotAfter (n : Network) (r : Report) (m : Timetable) : Type 0 where
  pub arrival : refusal n (ReportArrival r) m ≡ 0 → r.time.0 ≤ r.present.0
  pub departure : refusal n (ReportDeparture r) m ≡ 0 → r.time.0 ≤ r.present.0

abbrev pub AcceptedIsPast : Type 0
AcceptedIsPast = (n : Network) (r : Report) (m : Timetable) → NotAfter n r m

-- 3. The minute decides that alone, and is not kept: with any two minutes that its time is not after, a report is
-- answered alike and leaves the same.

-- the report with another minute
unfoldable pub carrying : Minute → Report → Report
carrying p r = record { station = r.station; train = r.train; time = r.time; present = p }

pub record SameEdit (n : Network) (e f : Edit) (m : Timetable) : Type 0 where
  pub answers : answer n e m ≡ answer n f m
  pub leaves : after n e m ≡ after n f m

abbrev pub MinuteIsNotKept : Type 0
MinuteIsNotKept = (n : Network) (r : Report) (m : Timetable) (p q : Minute) → T (minute_ok p) → T (minute_ok q) → r.time.0 ≤ p.0 → r.time.0 ≤ q.0
    → SameEdit n (ReportArrival (carrying p r)) (ReportArrival (carrying q r)) m × SameEdit n (ReportDeparture (carrying p r)) (ReportDeparture (carrying q r)) m

-- 4. A report that carries 2879, and every edit that is no report, is answered as before, and leaves what it left,
-- marks aside.
pub record AsBefore (n : Network) (e : Edit) (m : Timetable) : Type 0 where
  pub same_answer : Earlier.answer n (early_edit e) (λ k. early_table (m k)) ≡ answer n e m
  pub same_tables : (k : Station) → Earlier.after n (early_edit e) (λ k. early_table (m k)) k ≡ early_table (after n e m k)

abbrev pub LastMinuteAsBefore : Type 0
LastMinuteAsBefore = (n : Network) (e : Edit) (m : Timetable) → minute_of e ≡ last_minute → AsBefore n e m

-- The key ring of this module: `unfolding opened` opens every definition above.
unfoldable pub opened : Unit {0}
unfolding carrying
opened = tt
