-- `edit_calls::run_list` meets its contract: the tests that led to each return decide it; an accepted file's edits
-- are those that the loop takes. Assumes nothing.
use mathlib.Core.Path.{refl, sym, ◌∙◌}
use Rattle.std.proofs.lemmas.Result.{err_from_is_err_and}
use Rattle.base.specs.RefusalNumbers.{number_of}
use Rattle.edit_files.proofs.EditsParts.{listed_on, listed_stop}
use Rattle.edit_calls.proofs.RunLaws.{held, wrong_length, file_refused, list_short, list-run}
use Rattle.edit_calls.proofs.run_list.Goals as goal

pub returns-then-division-ne49152 : goal.returns-then-division-ne49152
returns-then-division-ne49152 c =
    let s = c.args in
    record { told = wrong_length s.form s.n.now s.file.now s.division.now s.out.now c.if-division-ne49152.true; err = (refl, refl) }

pub returns-in_err-list : goal.returns-in_err-list
returns-in_err-list c =
    let s = c.args in
    let e = c.in_err-list.field-0.0 in
    let p = err_from_is_err_and c.from_residual.result c.from_residual.ensures.1 in
    let x = file_refused s.form s.n.now s.file.now s.division.now s.out.now c.if-division-ne49152.false e (listed_stop _ (number_of e.refusal) e.place c.in_err-list.ensures) in
    record { told = rw (p.1, p.2) x; err = rw p.1 (refl, refl) }

pub returns-then-out-needed : goal.returns-then-out-needed
returns-then-out-needed c =
    let s = c.args in
    let l = c.in_ok-list in
    let (x, o, q) = listed_on _ l.list _ l.ensures in
    let h = held s.form s.file.now l.list x _ o q in
    let y = list_short s.form s.n.now s.file.now s.division.now s.out.now c.if-division-ne49152.false l.list h (rw c.from-count.ensures at c.if-out-needed.true) in
    record { told = rw c.from-count.ensures y; err = (refl, refl) }

pub run_edits-requires : goal.run_edits-requires
run_edits-requires c =
    let s = c.args in
    let l = c.in_ok-list in
    let (x, o, q) = listed_on _ l.list _ l.ensures in
    let h = held s.form s.file.now l.list x _ o q in
    rw c.from-count.ensures ((rw c.from-count.ensures at c.if-out-needed.false, h.few, h.readable), λ t. sym c.all_good-tested.ensures ∙ t)

pub returns : goal.returns
returns c =
    let s = c.args in
    let l = c.in_ok-list in
    let (x, o, q) = listed_on _ l.list _ l.ensures in
    let h = held s.form s.file.now l.list x _ o q in
    let e = rw c.from-count.ensures at c.run_edits.ensures in
    let y = list-run s.form s.n.now s.file.now s.division.now s.out.now c.if-division-ne49152.false l.list h _ _ (rw c.from-count.ensures at c.if-out-needed.false) e.0 e.1 in
    record { told = rw c.from-count.ensures y; err = tt }
