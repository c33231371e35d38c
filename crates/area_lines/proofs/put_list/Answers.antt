-- `area_lines::put_list` meets its contract: numbers of two bytes have at most five digits, so no line is
-- longer than 30 bytes. Assumes nothing.
use Prim.Native.Nat.{◌*◌, ◌/◌, ◌≤◌}
use native.Mathlib.Omega.{arith}
use lib.ListN.{length}
use Rattle.text.specs.between.Lines.{of_areas}
use Rattle.text.proofs.PutParts.{puts_as}
use Rattle.text.proofs.WithinBounds.{findings_there}
use Rattle.area_lines.proofs.AreaLists.{list_short}
use Rattle.area_lines.proofs.put_list.Goals as goal

pub returns : goal.returns
returns c =
    let s = c.args in
    let all : 4 * (s.k / 4) ≤ length s.numbers.now = omega (arith, c.requires.3) in
    let there = findings_there 0 (omega arith) s.h.letter (of_areas s.h.one s.h.other) (s.k / 4) s.numbers.now (omega (arith, c.requires.2)) all in
    let w = puts_as 0 _ _ _ _ _ _ there c.put_findings.ensures in
    (w.0, w.1, omega (arith, w.0, list_short s.h.letter s.h.one s.h.other c.requires.0 c.requires.1 s.k c.requires.2 s.numbers.now (λ i. omega (arith, c.type_inv.numbers i)) c.requires.3))
