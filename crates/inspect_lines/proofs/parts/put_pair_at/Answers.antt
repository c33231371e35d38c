-- `inspect_lines::parts::put_pair_at` meets its contract: the areas at the index are those of the pair. Assumes
-- nothing.
use Prim.Native.Nat.{◌*◌}
use native.Mathlib.Omega.{arith}
use Rattle.builder.specs.between.Builder.{findings_most}
use Rattle.text.proofs.PutParts.{puts_as}
use Rattle.area_lines.proofs.AreaLists.{pair_there}
use Rattle.inspect_lines.proofs.PartIndices.{two_at}
use Rattle.inspect_lines.proofs.parts.put_pair_at.Goals as goal

pub returns : goal.returns
returns c =
    let s = c.args in
    let p = c.pair_at-pair in
    let two = two_at s.i c.requires.1 p.result.first p.result.second p.ensures in
    let text = pair_there s.n.now s.sheet.now c.requires.0 p.result.first p.result.second two in
    let e = puts_as 0 _ _ _ _ _ (30 * findings_most) text c.put_pair.ensures in
    rw (← p.ensures) (e.0, e.1, omega (arith, e.2))
