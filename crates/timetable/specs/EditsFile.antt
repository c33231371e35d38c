-- The edits file, and the input of `shift`. Document 01, "Files": "Edits: count (0..1000), then kind and fields; a
-- relation is kind (1, 2, 3), interval, count of trains, trains (rising, except arriver, departer, whose count is 2)."
-- Document 02, W6: a stop mark "after its track in every edit that carries a track"; W7: reports "carry the present
-- minute .. as a last field"; an edit is read and written in a form. Assumes nothing.
use Rattle.std.specs.Prelude.{ℕ, zero, suc, ◌+◌, Bool, false, not, ◌&&◌, ◌||◌, leb, eqb, length, get_or}
use mathlib.Core.List.{List, [], ◌∷◌, ◌++◌, map, flat_map}
use Rattle.base.specs.Choice.{◌if◌else◌}
use Rattle.std.specs.Prelude.{if◌then◌else◌}
use Rattle.railway.specs.Ranges.{last_minute}
use Rattle.railway.specs.Relations.{used}
use Rattle.timetable.specs.Types.{Trains, Pair, Relation, Connection, Disconnection, Dependency, Network, FileForm}
use Rattle.timetable.specs.Types.{Plan, Extension, Deletion, Report, StationRelation}
use Rattle.timetable.specs.Types.{Edit, Place, Prepend, Append, DeleteFirst, DeleteLast, Amend}
use Rattle.timetable.specs.Types.{ReportArrival, ReportDeparture, AddRelation, RemoveRelation, DeleteTrain}
use Rattle.timetable.specs.Tables.{packed}
use Rattle.timetable.specs.Formats.{Format, done, field, ◌and_then◌, Outcome, accepted, behind, read_file, Range, ◌to◌, compared, row, entries, Placed, placed}
use Rattle.timetable.specs.FileForms.{newest_form, mark_range, mark_numbers, mark_said, with_mark, minute_range, minute_numbers, minute_said, with_minute}
use Rattle.timetable.specs.NetworkFile.{Listed, network_format, network_of, network_fault, unless_fault}

-- relations

-- k trains; where they rise, each is above the one before it
unfoldable pub trains_format : Bool → ℕ → ℕ → List ℕ → Format (List ℕ)
trains_format rise zero before floor = done []
trains_format rise (suc k) before floor =
    compared (if rise then before + 1 else 1) 9999 floor (λ t left. trains_format rise k t left and_then (λ ts. done (t ∷ ts)))

unfoldable pub pair_of : List ℕ → Pair
pair_of ts = record { arriver = record { 0 = get_or ts 0 0 }; departer = record { 0 = get_or ts 1 0 } }

unfoldable pub group_of : List ℕ → Trains
group_of ts = packed (map (λ t. record { 0 = t }) ts)

unfoldable pub relation_of : ℕ → ℕ → List ℕ → Relation
relation_of kind i ts =
    if eqb kind 1 then Connection i (group_of ts)
    else if eqb kind 2 then Disconnection i (group_of ts)
    else Dependency i (pair_of ts)

-- "The first two hold 2..4 different trains, a dependency an arriver and a departer"
unfoldable pub most_trains : ℕ → ℕ
most_trains kind = 2 if eqb kind 3 else 4

-- kind, interval, count of trains, trains: each with what is behind it
unfoldable pub trains_part : ℕ → ℕ → ℕ → List ℕ → Format Relation
trains_part kind i k floor = trains_format (not (eqb kind 3)) k 0 floor and_then (λ ts. done (relation_of kind i ts))

unfoldable pub train_count_part : ℕ → ℕ → List ℕ → Format Relation
train_count_part kind i floor = compared 2 (most_trains kind) floor (λ k left. trains_part kind i k left)

unfoldable pub interval_part : ℕ → List ℕ → Format Relation
interval_part kind floor = compared 0 240 floor (λ i left. train_count_part kind i left)

unfoldable pub relation_entry : List ℕ → Format Relation
relation_entry floor = compared 1 3 floor (λ kind left. interval_part kind left)

unfoldable pub group_numbers : ℕ → ℕ → Trains → List ℕ
group_numbers kind i ts = kind ∷ i ∷ length (used ts) ∷ map (λ t. t.0) (used ts)

unfoldable pub relation_numbers : Relation → List ℕ
relation_numbers (Connection i ts) = group_numbers 1 i ts
relation_numbers (Disconnection i ts) = group_numbers 2 i ts
relation_numbers (Dependency i p) = 3 ∷ i ∷ 2 ∷ p.arriver.0 ∷ p.departer.0 ∷ []

-- a relation with its station before it
unfoldable pub station_relation_entry : List ℕ → Format StationRelation
station_relation_entry floor =
    compared 1 16 floor (λ s left. relation_entry left and_then (λ r. done (record { station = record { 0 = s }; relation = r })))

unfoldable pub station_relation_numbers : StationRelation → List ℕ
station_relation_numbers r = r.station.0 ∷ relation_numbers r.relation

-- edits

-- "(s, t, track, arrival, departure)", the mark after the track
unfoldable pub plan_ranges : FileForm → List Range
plan_ranges form = 1 to 16 ∷ 1 to 9999 ∷ 1 to 8 ∷ (mark_range form ++ (0 to last_minute ∷ 0 to last_minute ∷ []))

-- of the numbers that the newest form has
unfoldable pub plan_of : List ℕ → Plan
plan_of ns = record {
  station = record { 0 = get_or ns 0 0 };
  train = record { 0 = get_or ns 1 0 };
  track = record { 0 = get_or ns 2 0 };
  marked = eqb (get_or ns 3 0) 1;
  arrival = record { 0 = get_or ns 4 0 };
  departure = record { 0 = get_or ns 5 0 };
}

unfoldable pub plan_numbers : FileForm → Plan → List ℕ
plan_numbers form p = p.station.0 ∷ p.train.0 ∷ p.track.0 ∷ (mark_numbers form p.marked ++ (p.arrival.0 ∷ p.departure.0 ∷ []))

-- "(as 1, then p, line, running time)"
unfoldable pub extension_ranges : FileForm → List Range
extension_ranges form = plan_ranges form ++ (1 to 16 ∷ 1 to 32 ∷ 1 to 240 ∷ [])

unfoldable pub extension_of : List ℕ → Extension
extension_of ns = record { plan = plan_of ns; other = record { 0 = get_or ns 6 0 }; line = record { 0 = get_or ns 7 0 }; run = get_or ns 8 0 }

unfoldable pub extension_numbers : FileForm → Extension → List ℕ
extension_numbers form x = plan_numbers form x.plan ++ (x.other.0 ∷ x.line.0 ∷ x.run ∷ [])

-- "(s, t, p)"
unfoldable pub deletion_ranges : List Range
deletion_ranges = 1 to 16 ∷ 1 to 9999 ∷ 1 to 16 ∷ []

unfoldable pub deletion_of : List ℕ → Deletion
deletion_of ns = record { station = record { 0 = get_or ns 0 0 }; train = record { 0 = get_or ns 1 0 }; other = record { 0 = get_or ns 2 0 } }

unfoldable pub deletion_numbers : Deletion → List ℕ
deletion_numbers d = d.station.0 ∷ d.train.0 ∷ d.other.0 ∷ []

-- "(s, t, time)", the present minute last
unfoldable pub report_ranges : FileForm → List Range
report_ranges form = 1 to 16 ∷ 1 to 9999 ∷ 0 to last_minute ∷ minute_range form

unfoldable pub report_of : List ℕ → Report
report_of ns = record {
  station = record { 0 = get_or ns 0 0 };
  train = record { 0 = get_or ns 1 0 };
  time = record { 0 = get_or ns 2 0 };
  present = record { 0 = get_or ns 3 0 };
}

unfoldable pub report_numbers : FileForm → Report → List ℕ
report_numbers form r = r.station.0 ∷ r.train.0 ∷ r.time.0 ∷ minute_numbers form r.present.0

-- the ranges of an edit's fields, and the edit of such fields, by the kind; 9 and 10 hold a relation instead

unfoldable pub edit_ranges : FileForm → ℕ → List Range
edit_ranges form kind =
    if eqb kind 1 then plan_ranges form
    else if eqb kind 2 then extension_ranges form
    else if eqb kind 3 then extension_ranges form
    else if eqb kind 4 then deletion_ranges
    else if eqb kind 5 then deletion_ranges
    else if eqb kind 6 then plan_ranges form
    else if eqb kind 7 then report_ranges form
    else if eqb kind 8 then report_ranges form
    else (1 to 9999 ∷ [])

unfoldable pub edit_of : ℕ → List ℕ → Edit
edit_of kind ns =
    if eqb kind 1 then Place (plan_of ns)
    else if eqb kind 2 then Prepend (extension_of ns)
    else if eqb kind 3 then Append (extension_of ns)
    else if eqb kind 4 then DeleteFirst (deletion_of ns)
    else if eqb kind 5 then DeleteLast (deletion_of ns)
    else if eqb kind 6 then Amend (plan_of ns)
    else if eqb kind 7 then ReportArrival (report_of ns)
    else if eqb kind 8 then ReportDeparture (report_of ns)
    else DeleteTrain (record { train = record { 0 = get_or ns 0 0 } })

-- "every edit that carries a track"
unfoldable pub has_track : ℕ → Bool
has_track kind = leb kind 3 || eqb kind 6

-- "Reports of arrival and departure"
unfoldable pub is_report : ℕ → Bool
is_report kind = eqb kind 7 || eqb kind 8

-- what the earlier form lacks of such fields is supplied
unfoldable pub supplied : FileForm → ℕ → List ℕ → List ℕ
supplied form kind ns = if has_track kind then with_mark form ns else if is_report kind then with_minute form ns else ns

unfoldable pub edit_fields : FileForm → ℕ → Format Edit
edit_fields form kind =
    if eqb kind 9 then (station_relation_entry [] and_then (λ r. done (AddRelation r)))
    else if eqb kind 10 then (station_relation_entry [] and_then (λ r. done (RemoveRelation r)))
    else (row (edit_ranges form kind) [] and_then (λ ns. done (edit_of kind (supplied form kind ns))))

unfoldable pub edit_entry : FileForm → Format Edit
edit_entry form = field 1 11 (edit_fields form)

unfoldable pub edit_numbers : FileForm → Edit → List ℕ
edit_numbers form (Place p) = 1 ∷ plan_numbers form p
edit_numbers form (Prepend x) = 2 ∷ extension_numbers form x
edit_numbers form (Append x) = 3 ∷ extension_numbers form x
edit_numbers form (DeleteFirst d) = 4 ∷ deletion_numbers d
edit_numbers form (DeleteLast d) = 5 ∷ deletion_numbers d
edit_numbers form (Amend p) = 6 ∷ plan_numbers form p
edit_numbers form (ReportArrival r) = 7 ∷ report_numbers form r
edit_numbers form (ReportDeparture r) = 8 ∷ report_numbers form r
edit_numbers form (AddRelation r) = 9 ∷ station_relation_numbers r
edit_numbers form (RemoveRelation r) = 10 ∷ station_relation_numbers r
edit_numbers form (DeleteTrain c) = 11 ∷ c.train.0 ∷ []

-- the mark that an edit carries, 0 where it carries no track
unfoldable pub mark_of : Edit → Bool
mark_of (Place p) = p.marked
mark_of (Prepend x) = x.plan.marked
mark_of (Append x) = x.plan.marked
mark_of (DeleteFirst d) = false
mark_of (DeleteLast d) = false
mark_of (Amend p) = p.marked
mark_of (ReportArrival r) = false
mark_of (ReportDeparture r) = false
mark_of (AddRelation r) = false
mark_of (RemoveRelation r) = false
mark_of (DeleteTrain c) = false

-- the minute that an edit carries, the last where it is no report
unfoldable pub minute_of : Edit → ℕ
minute_of (Place p) = last_minute
minute_of (Prepend x) = last_minute
minute_of (Append x) = last_minute
minute_of (DeleteFirst d) = last_minute
minute_of (DeleteLast d) = last_minute
minute_of (Amend p) = last_minute
minute_of (ReportArrival r) = r.present.0
minute_of (ReportDeparture r) = r.present.0
minute_of (AddRelation r) = last_minute
minute_of (RemoveRelation r) = last_minute
minute_of (DeleteTrain c) = last_minute

-- a form can say it: the earlier one only what has the values that it is supplied with
unfoldable pub edit_said : FileForm → Edit → Bool
edit_said form e = mark_said form (mark_of e) && minute_said form (minute_of e)

-- lists of edits: edits have no order

unfoldable pub edits_on : FileForm → ℕ → Format (List Edit)
edits_on form k = entries (λ floor. edit_entry form) (λ e. []) k []

-- the edits, with the place of the first
unfoldable pub edits_format : FileForm → Format (Placed (List Edit))
edits_format form = field 0 1000 (λ k. placed (edits_on form k))

unfoldable pub read_edits_as : FileForm → List ℕ → Outcome (Placed (List Edit))
read_edits_as form file = read_file (edits_format form) file

abbrev pub read_edits : List ℕ → Outcome (Placed (List Edit))
read_edits file = read_edits_as newest_form file

-- "what is written is the new form"
unfoldable pub edits_numbers : FileForm → List Edit → List ℕ
edits_numbers form es = length es ∷ flat_map (edit_numbers form) es

-- the input of `shift`: "network, then edits"

pub record Shift : Type 0 where
  pub network : Network
  pub edits : Placed (List Edit)

-- what the file lists, before the network's lines are tested
pub record Input : Type 0 where
  pub listed : Listed
  pub edits : Placed (List Edit)

unfoldable pub shift_format : Format Input
shift_format = network_format and_then (λ x. edits_format newest_form and_then (λ es. done (record { listed = x; edits = es })))

unfoldable pub read_shift : List ℕ → Outcome Shift
read_shift file =
    behind (read_file shift_format file) (λ x next.
    unless_fault (network_fault x.listed) (accepted (record { network = network_of x.listed; edits = x.edits }) next))

-- The key ring of this module: `unfolding opened` opens every definition above.
unfoldable pub opened : Unit {0}
unfolding trains_format pair_of group_of relation_of most_trains trains_part train_count_part interval_part relation_entry group_numbers relation_numbers station_relation_entry station_relation_numbers
    plan_ranges plan_of plan_numbers extension_ranges extension_of extension_numbers deletion_ranges deletion_of deletion_numbers report_ranges report_of
    report_numbers edit_ranges edit_of has_track is_report supplied edit_fields edit_entry edit_numbers mark_of minute_of edit_said edits_on edits_format read_edits_as edits_numbers shift_format read_shift
opened = tt
