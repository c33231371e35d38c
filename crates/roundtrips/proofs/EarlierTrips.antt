-- Files of the earlier form and of the newest hold the same, where the earlier form can say it. What that form reads is
-- in range, and said in that form, so a visit has no mark (EditTrips, TimetableTrips: `only`); the newest form says
-- anything, so the newest file of it reads back to it (`back`). What is in range and said in the earlier form is read
-- back from its earlier file. Assumes nothing.
use Prim.Native.Nat.{ℕ}
use mathlib.Core.Path.{sym, ◌∙◌, ap}
use lib.ListN.{length}
use Rattle.timetable.specs.declared.FileForm.{FileForm}
use Rattle.timetable.specs.Formats.{accepted}
use Rattle.timetable.specs.FileForms.{newest_form, mark_said}
use Rattle.timetable.specs.TimetableFile.{visit_said}
use Rattle.roundtrips.specs.Earlier.{edits_file, EarlierEdits, SaidEdits, EarlierTimetables, UnmarkedTimetables}
use Rattle.roundtrips.proofs.EditTrips.{edits_said_newest, edits_trip}
use Rattle.roundtrips.proofs.TimetableTrips.{timetable_said_newest, timetable_trip}

-- edits

pub earlier_edits : EarlierEdits
earlier_edits file es next s e =
    let r = (edits_trip FileForm.Earlier).only file es next s e in (
      r.said,
      (edits_trip newest_form).back es.entry r.few r.good (edits_said_newest es.entry)
          ∙ ap (λ (p : ℕ). accepted (record { place = p; entry = es.entry }) (length (edits_file newest_form es.entry))) (sym r.first),
    )

pub said_edits : SaidEdits
said_edits es h t u = (edits_trip FileForm.Earlier).back es h t u

-- timetables

pub earlier_timetables : EarlierTimetables
unfolding visit_said mark_said
earlier_timetables n file m next s e =
    let r = (timetable_trip FileForm.Earlier).only n file m next s e in
    (r.said, (timetable_trip newest_form).back n m r.network_good r.whole (timetable_said_newest m))

pub unmarked_timetables : UnmarkedTimetables
unfolding visit_said mark_said
unmarked_timetables n m g w u = (timetable_trip FileForm.Earlier).back n m g w u
