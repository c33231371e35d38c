-- `visit_files::visit::visit_entry` meets its contract: station and train are compared with those before, and the
-- values behind them follow. Assumes nothing.
use mathlib.Core.Path.{sym, ◌∙◌}
use Rattle.fields.proofs.EntryLaws.{field_bounded}
use Rattle.visit_files.proofs.VisitLaws.{train_then}
use Rattle.visit_files.proofs.visit.visit_entry.Goals as goal

pub returns : goal.returns
returns c =
    let s = c.args in
    let o = rw c.from.ensures at (sym c.in_ok-s.ensures) in
    let q = rw (c.floor_after.ensures, c.from.ensures) at (sym c.in_ok-t.ensures) in
    let b = (field_bounded _ 16 s.file.now s.at c.in_ok-s.s c.in_ok-s.next o).1 in
    c.visit_values.ensures b
    ∙ sym (train_then s.form s.station.0 s.train.0 s.file.now s.at c.in_ok-s.s c.in_ok-s.next o c.in_ok-t.t c.in_ok-t.next q)
