-- `edit_writing::writing::write_edits` meets its contract: a pass over a spare byte counts, and the same pass writes.
-- Assumes nothing.
use mathlib.Core.Path.{refl, ◌∙◌}
use lib.ListN.{length}
use Rattle.timetable.specs.EditsFile.{read_edits}
use Rattle.edit_files.proofs.EditsParts.{listed_on, listed_stop}
use Rattle.edit_writing.proofs.WritingLaws.{list_refused, list_there, list_short, list_fits}
use Rattle.edit_writing.proofs.writing.write_edits.Goals as goal

pub returns-in-Err : goal.returns-in-Err
returns-in-Err c =
    let s = c.args in
    let e = c.in-Err.e in
    let x = list_refused s.file.now s.out.now e.refusal e.place (listed_stop (read_edits s.file.now) _ _ c.in-Err.ensures) in
    record { answer = x.0; after = x.1; err = refl }

pub returns-then-out-needed : goal.returns-then-out-needed
returns-then-out-needed c =
    let s = c.args in
    let l = c.in-Ok.list in
    let p = c.put_list-needed in
    let (es, o, q) = listed_on (read_edits s.file.now) l (length s.file.now) c.in-Ok.ensures in
    let (end, t) = list_there s.file.now s.out.now es (length s.file.now) o l q in
    let x = list_short s.file.now s.out.now es (length s.file.now) o l q p.result (p.ensures es.entry end t).0 c.if-out-needed.true in
    record { answer = x.0; after = x.1; err = refl }

pub returns : goal.returns
returns c =
    let s = c.args in
    let l = c.in-Ok.list in
    let p = c.put_list-needed in
    let (es, o, q) = listed_on (read_edits s.file.now) l (length s.file.now) c.in-Ok.ensures in
    let (end, t) = list_there s.file.now s.out.now es (length s.file.now) o l q in
    let x = list_fits s.file.now s.out.now es (length s.file.now) o l q p.result (p.ensures es.entry end t).0 c.if-out-needed.false in
    record { answer = x.0; after = (c.put_list.ensures es.entry end t).1 ∙ x.1; err = tt }
