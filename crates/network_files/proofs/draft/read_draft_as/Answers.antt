-- `network_files::draft::read_draft_as` meets its contract: each part decides, and an accepted one is followed by the
-- next; behind the last the network and its fault are put together. Assumes nothing.
use mathlib.Core.Path.{sym, ◌∙◌, ap}
use mathlib.Core.Bool.{not}
use native.Mathlib.Omega.{arith}
use Rattle.base.specs.Lists.{first}
use Rattle.base.specs.RefusalNumbers.{number_of}
use Rattle.network.specs.declared.Network.{Network}
use Rattle.network.specs.Networks.{ends_listed, line_listed}
use Rattle.timetable.specs.NetworkFile.{fault_of, network_fault, unended}
use Rattle.fields.proofs.EntryLaws.{field_bounded, small}
use Rattle.network_files.specs.Answers.{DraftOf, lines_fault}
use Rattle.network_files.proofs.DraftLaws.{tells_refused, count_stop, stations_stop, headway_stop, lines_count_stop, lines_stop, closures_count_stop, closures_stop, all_read}
use Rattle.network_files.proofs.DraftLaws.{stations_many, lines_many, closures_many, stations_known, lines_known, closures_known, lines_alike, closures_alike, faults_or, listed_with}
use Rattle.network_files.proofs.draft.read_draft_as.Goals as goal

pub returns-in_err-count : goal.returns-in_err-count
returns-in_err-count c =
    let s = c.args in
    let e = c.in_err-count.field-0.0 in
    tells_refused DraftOf c.from_residual.result _ e c.from_residual.ensures.1 (count_stop s.form s.file.now (number_of e.refusal) e.place (sym c.in_err-count.ensures))

pub stations-requires : goal.stations-requires
stations-requires c = (field_bounded 1 16 c.args.file.now 0 c.in_ok-count.count c.in_ok-count.place (sym c.in_ok-count.ensures)).1

pub returns-in_err-rows : goal.returns-in_err-rows
returns-in_err-rows c =
    let s = c.args in
    let k = c.in_ok-count in
    let e = c.in_err-rows.field-0.0 in
    tells_refused DraftOf c.from_residual-in_err-rows.result _ e c.from_residual-in_err-rows.ensures.1
    (stations_stop s.form s.file.now k.count k.place (sym k.ensures) (number_of e.refusal) e.place c.in_err-rows.ensures)

pub returns-in_err-headway : goal.returns-in_err-headway
returns-in_err-headway c =
    let s = c.args in
    let k = c.in_ok-count in
    let r = c.in_ok-rows in
    let e = c.in_err-headway.field-0.0 in
    tells_refused DraftOf c.from_residual-in_err-headway.result _ e c.from_residual-in_err-headway.ensures.1
    (headway_stop s.form s.file.now k.count k.place (sym k.ensures) r.ensures.0 r.place r.ensures.1 (number_of e.refusal) e.place (sym c.in_err-headway.ensures))

pub returns-in_err-count-2 : goal.returns-in_err-count-2
returns-in_err-count-2 c =
    let s = c.args in
    let k = c.in_ok-count in
    let r = c.in_ok-rows in
    let h = c.in_ok-headway in
    let e = c.in_err-count-2.field-0.0 in
    tells_refused DraftOf c.from_residual-in_err-count-2.result _ e c.from_residual-in_err-count-2.ensures.1
    (lines_count_stop s.form s.file.now k.count k.place (sym k.ensures) r.ensures.0 r.place r.ensures.1 h.headway h.place (sym h.ensures) (number_of e.refusal) e.place (sym c.in_err-count-2.ensures))

pub lines-requires : goal.lines-requires
lines-requires c = (field_bounded 0 32 c.args.file.now c.in_ok-headway.place c.in_ok-count-2.count c.in_ok-count-2.place (sym c.in_ok-count-2.ensures)).1

pub returns-in_err-lines : goal.returns-in_err-lines
returns-in_err-lines c =
    let s = c.args in
    let k = c.in_ok-count in
    let r = c.in_ok-rows in
    let h = c.in_ok-headway in
    let m = c.in_ok-count-2 in
    let e = c.in_err-lines.field-0.0 in
    tells_refused DraftOf c.from_residual-in_err-lines.result _ e c.from_residual-in_err-lines.ensures.1
    (lines_stop s.form s.file.now k.count k.place (sym k.ensures) r.ensures.0 r.place r.ensures.1 h.headway h.place (sym h.ensures)
    m.count m.place (sym m.ensures) (number_of e.refusal) e.place c.in_err-lines.ensures)

pub returns-in_err-count-3 : goal.returns-in_err-count-3
returns-in_err-count-3 c =
    let s = c.args in
    let k = c.in_ok-count in
    let r = c.in_ok-rows in
    let h = c.in_ok-headway in
    let m = c.in_ok-count-2 in
    let l = c.in_ok-lines in
    let e = c.in_err-count-3.field-0.0 in
    tells_refused DraftOf c.from_residual-in_err-count-3.result _ e c.from_residual-in_err-count-3.ensures.1
    (closures_count_stop s.form s.file.now k.count k.place (sym k.ensures) r.ensures.0 r.place r.ensures.1 h.headway h.place (sym h.ensures)
    m.count m.place (sym m.ensures) l.ensures.0 l.place l.ensures.1 (number_of e.refusal) e.place (sym c.in_err-count-3.ensures))

pub closures-requires : goal.closures-requires
closures-requires c = (field_bounded 0 32 c.args.file.now c.in_ok-lines.place c.in_ok-count-3.count c.in_ok-count-3.place (sym c.in_ok-count-3.ensures)).1

pub returns-in_err-closures : goal.returns-in_err-closures
returns-in_err-closures c =
    let s = c.args in
    let k = c.in_ok-count in
    let r = c.in_ok-rows in
    let h = c.in_ok-headway in
    let m = c.in_ok-count-2 in
    let l = c.in_ok-lines in
    let i = c.in_ok-count-3 in
    let e = c.in_err-closures.field-0.0 in
    tells_refused DraftOf c.from_residual-in_err-closures.result _ e c.from_residual-in_err-closures.ensures.1
    (closures_stop s.form s.file.now k.count k.place (sym k.ensures) r.ensures.0 r.place r.ensures.1 h.headway h.place (sym h.ensures)
    m.count m.place (sym m.ensures) l.ensures.0 l.place l.ensures.1 i.count i.place (sym i.ensures) (number_of e.refusal) e.place c.in_err-closures.ensures)

pub returns : goal.returns
unfolding network_fault lines_fault unended
returns c =
    let s = c.args in
    let k = c.in_ok-count in
    let r = c.in_ok-rows in
    let h = c.in_ok-headway in
    let m = c.in_ok-count-2 in
    let l = c.in_ok-lines in
    let i = c.in_ok-count-3 in
    let q = c.in_ok-closures in
    let ss = r.ensures.0 in
    let ls = l.ensures.0 in
    let cs = q.ensures.0 in
    let k-most = (field_bounded 1 16 s.file.now 0 k.count k.place (sym k.ensures)).1 in
    let h-most = (field_bounded 1 30 s.file.now r.place h.headway h.place (sym h.ensures)).1 in
    let m-most = (field_bounded 0 32 s.file.now h.place m.count m.place (sym m.ensures)).1 in
    let i-most = (field_bounded 0 32 s.file.now l.place i.count i.place (sym i.ensures)).1 in
    let k-is = small c.narrow.result k.count c.narrow.ensures (omega (arith, k-most)) ∙ sym (stations_many s.file.now k.place k.count ss r.place r.ensures.1) in
    let h-is = small c.narrow-2.result h.headway c.narrow-2.ensures (omega (arith, h-most)) in
    let m-is = small c.narrow-3.result m.count c.narrow-3.ensures (omega (arith, m-most)) ∙ sym (lines_many s.form s.file.now m.place m.count ls l.place l.ensures.1) in
    let i-is = small c.narrow-4.result i.count c.narrow-4.ensures (omega (arith, i-most)) ∙ sym (closures_many s.file.now i.place i.count cs q.place q.ensures.1) in
    let known = stations_known ss h.headway r.rows r.ensures.2 c.narrow.result c.narrow-2.result k-is h-is c.blank_network-network.result c.blank_network-network.ensures in
    let lined = lines_known ss h.headway ls l.lines.rows l.ensures.2.0 c.narrow-3.result m-is _ known in
    let closed = closures_known ss h.headway ls cs q.closures.rows q.ensures.2.0 c.narrow-4.result i-is _ lined in
    let joined = l.ensures.2.1 ∙ ap (λ (n : Network). fault_of 4 (first (λ l. not (ends_listed n l.entry)) ls)) known ∙ lines_alike ss h.headway ls cs in
    let unlisted = q.ensures.2.2 ∙ ap (λ (n : Network). fault_of 4 (first (λ c. not (line_listed n c.entry.line)) cs)) lined ∙ closures_alike ss h.headway ls cs in
    let told = faults_or q.closures.unended l.lines.fault q.closures.unlisted _ _ _ q.ensures.2.1 joined unlisted in (
      listed_with ss h.headway ls cs,
      all_read s.form s.file.now k.count k.place (sym k.ensures) ss r.place r.ensures.1 h.headway h.place (sym h.ensures) m.count m.place (sym m.ensures)
          ls l.place l.ensures.1 i.count i.place (sym i.ensures) cs q.place q.ensures.1,
      (closed, rw (c.or-fault.ensures, c.or.ensures) told),
    )
