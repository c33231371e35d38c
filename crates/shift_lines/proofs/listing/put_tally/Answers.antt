-- `shift_lines::listing::put_tally` meets its contract: one line of four numbers. Assumes nothing.
use native.Mathlib.Omega.{arith}
use Rattle.timetable.specs.Listing.{tally_line}
use Rattle.listings.specs.Shift.{line_text}
use Rattle.text.proofs.PutParts.{puts_as}
use Rattle.text.proofs.WithinBounds.{line_there}
use Rattle.shift_lines.proofs.listing.put_tally.Goals as goal

pub returns : goal.returns
unfolding line_text tally_line
returns c =
    puts_as _ _ _ _ _ _ _ (line_there c.args.at c.requires 65 _ (omega arith)) c.put_line.ensures
