-- `journey_lines::put_stations` meets its contract: the visits of so many stations are put. Assumes nothing.
use mathlib.Core.List.{flat_map}
use Rattle.sheet.specs.Sheets.{decode_sheet}
use Rattle.listings.specs.Inspect.{visit_text}
use Rattle.text.proofs.PutParts.{PutSome}
use Rattle.journey_lines.proofs.put_stations.Given as goal

abbrev pub invariant-loop-row : goal.invariant-loop-row
invariant-loop-row l = PutSome (λ r. flat_map (visit_text l.n (decode_sheet l.sheet) r.station) (decode_sheet l.sheet r.station).visits) l.row-items 27648 0 l.initial.out l.row-index l.next l.out
