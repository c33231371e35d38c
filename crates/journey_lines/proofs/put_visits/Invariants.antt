-- `journey_lines::put_visits` meets its contract: so many visits of the page are put. Assumes nothing.
use Rattle.page.specs.between.Changes.{table_in}
use Rattle.sheet.specs.Sheets.{decode_sheet}
use Rattle.listings.specs.Inspect.{visit_text}
use Rattle.text.proofs.PutParts.{PutSome}
use Rattle.journey_lines.proofs.put_visits.Given as goal

abbrev pub invariant-loop-i : goal.invariant-loop-i
invariant-loop-i l = PutSome (visit_text l.n (decode_sheet l.sheet) l.s) (table_in l.part).visits 1152 l.at l.initial.out l.i l.next l.out
