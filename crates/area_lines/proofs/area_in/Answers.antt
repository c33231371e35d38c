-- `area_lines::area_in` meets its contract: where the sheet does not divide, or the call is refused, there is no text;
-- else the list fits and is printed. Assumes nothing.
use Prim.Native.Nat.{◌*◌}
use native.Mathlib.Omega.{arith}
use Rattle.builder.specs.between.Builder.{findings_most}
use Rattle.base.specs.RefusalNumbers.{refusal_number}
use Rattle.text.proofs.PutParts.{puts_as}
use Rattle.area_lines.proofs.AreaLists.{went, stopped, nothing_put, divided_fine, no_area, own-refused, own-low, own-printed}
use Rattle.area_lines.proofs.area_in.Goals as goal

pub returns-then-is_err : goal.returns-then-is_err
returns-then-is_err c =
    let s = c.args in
    let d = c.divide in
    nothing_put _ s.out.now (30 * findings_most) (no_area s.n.now s.sheet.now _ c.requires.1 (refusal_number d.result) d.ensures.0 (stopped c.is_err.result d.result c.is_err.ensures.value c.if-is_err.true) s.a)

pub put_list-requires : goal.put_list-requires
put_list-requires c =
    let s = c.args in
    let f = c.area_findings in
    let p = c.area_sheet in
    let d = c.divide in
    let fine = divided_fine s.n.now s.sheet.now _ c.requires.1 (refusal_number d.result) d.ensures.0 (went c.is_err.result d.result c.is_err.ensures.value c.if-is_err.false) in
    let told = own-printed s.n.now s.sheet.now fine s.a _ _ _ _ c.requires.1 d.ensures.1 p.ensures c.requires.0 f.result f.ensures.0 _ c.in-Ok.is _ f.ensures.1 in
    (own-low s.n.now s.sheet.now fine s.a _ _ _ _ c.requires.1 d.ensures.1 p.ensures c.requires.0 f.result f.ensures.0 _ c.in-Ok.is, omega arith, told.0, told.1)

pub returns-in-Ok : goal.returns-in-Ok
returns-in-Ok c =
    let s = c.args in
    let f = c.area_findings in
    let p = c.area_sheet in
    let d = c.divide in
    let fine = divided_fine s.n.now s.sheet.now _ c.requires.1 (refusal_number d.result) d.ensures.0 (went c.is_err.result d.result c.is_err.ensures.value c.if-is_err.false) in
    let told = own-printed s.n.now s.sheet.now fine s.a _ _ _ _ c.requires.1 d.ensures.1 p.ensures c.requires.0 f.result f.ensures.0 _ c.in-Ok.is _ f.ensures.1 in
    puts_as 0 _ _ _ s.out.now _ (30 * findings_most) told.2 c.put_list.ensures

pub returns-in-Err : goal.returns-in-Err
returns-in-Err c =
    let s = c.args in
    let f = c.area_findings in
    let p = c.area_sheet in
    let d = c.divide in
    let fine = divided_fine s.n.now s.sheet.now _ c.requires.1 (refusal_number d.result) d.ensures.0 (went c.is_err.result d.result c.is_err.ensures.value c.if-is_err.false) in
    nothing_put _ s.out.now (30 * findings_most) (own-refused s.n.now s.sheet.now fine s.a _ _ _ _ c.requires.1 d.ensures.1 p.ensures c.requires.0 f.result f.ensures.0 _ c.in-Err.is)
