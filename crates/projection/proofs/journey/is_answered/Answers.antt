-- `projection::journey::is_answered` meets its contract: the far visit, if there is one, decides. Assumes nothing.
use mathlib.Core.Path.{sym, ◌∙◌}
use Rattle.sheet.specs.Sheets.{decode_sheet}
use Rattle.projection.proofs.JourneyLaws.{answered_by, answered_not}
use Rattle.projection.proofs.journey.is_answered.Goals as goal

pub returns-in-Some : goal.returns-in-Some
returns-in-Some c =
    let s = c.args in
    c.is_from.ensures ∙ answered_by s.s s.t s.o (decode_sheet s.sheet.now s.o.station) _ (sym c.visit_at.ensures ∙ c.in-Some.is)

pub returns-in-None : goal.returns-in-None
returns-in-None c =
    let s = c.args in
    answered_not s.s s.t s.o (decode_sheet s.sheet.now s.o.station) (sym c.visit_at.ensures ∙ c.in-None.is)
