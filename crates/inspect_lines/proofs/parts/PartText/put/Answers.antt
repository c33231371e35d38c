-- A part of `inspect` is put as its text says: what `put_part` promises. Assumes nothing.
use Rattle.inspect_lines.specs.Parts.{part_text}
use Rattle.inspect_lines.proofs.parts.PartText.put.Goals as goal

pub returns : goal.returns
unfolding part_text
returns c = c.put_part.ensures
