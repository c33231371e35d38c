-- `area_lines::pair_in` meets its contract: where the sheet does not divide, or the call is refused, there is no text;
-- else the list fits and is printed. Assumes nothing.
use Prim.Native.Nat.{◌*◌}
use Rattle.builder.specs.between.Builder.{findings_most}
use Rattle.base.specs.RefusalNumbers.{refusal_number}
use Rattle.text.proofs.PutParts.{puts_as}
use Rattle.area_lines.proofs.AreaLists.{went, stopped, nothing_put, divided_fine, no_pair, two_refused, two-low, two-printed}
use Rattle.area_lines.proofs.pair_in.Goals as goal

pub returns-then-is_err : goal.returns-then-is_err
returns-then-is_err c =
    let s = c.args in
    let d = c.divide in
    nothing_put _ s.out.now (30 * findings_most) (no_pair s.n.now s.sheet.now _ c.requires.1 (refusal_number d.result) d.ensures.0 (stopped c.is_err.result d.result c.is_err.ensures.value c.if-is_err.true) s.a s.b)

pub put_list-requires : goal.put_list-requires
put_list-requires c =
    let s = c.args in
    let f = c.pair_findings in
    let second = c.area_sheet-second in
    let first = c.area_sheet-first in
    let d = c.divide in
    let fine = divided_fine s.n.now s.sheet.now _ c.requires.1 (refusal_number d.result) d.ensures.0 (went c.is_err.result d.result c.is_err.ensures.value c.if-is_err.false) in
    let told = two-printed s.n.now s.sheet.now fine s.a s.b _ _ _ _ _ c.requires.1 d.ensures.1 first.ensures second.ensures c.requires.0 f.result f.ensures.0 _ c.in-Ok.is _ f.ensures.1 in
    let low = two-low s.n.now s.sheet.now fine s.a s.b _ _ _ _ _ c.requires.1 d.ensures.1 first.ensures second.ensures c.requires.0 f.result f.ensures.0 _ c.in-Ok.is in
    (low.0, low.1, told.0, told.1)

pub returns-in-Ok : goal.returns-in-Ok
returns-in-Ok c =
    let s = c.args in
    let f = c.pair_findings in
    let second = c.area_sheet-second in
    let first = c.area_sheet-first in
    let d = c.divide in
    let fine = divided_fine s.n.now s.sheet.now _ c.requires.1 (refusal_number d.result) d.ensures.0 (went c.is_err.result d.result c.is_err.ensures.value c.if-is_err.false) in
    let told = two-printed s.n.now s.sheet.now fine s.a s.b _ _ _ _ _ c.requires.1 d.ensures.1 first.ensures second.ensures c.requires.0 f.result f.ensures.0 _ c.in-Ok.is _ f.ensures.1 in
    puts_as 0 _ _ _ s.out.now _ (30 * findings_most) told.2 c.put_list.ensures

pub returns-in-Err : goal.returns-in-Err
returns-in-Err c =
    let s = c.args in
    let f = c.pair_findings in
    let second = c.area_sheet-second in
    let first = c.area_sheet-first in
    let d = c.divide in
    let fine = divided_fine s.n.now s.sheet.now _ c.requires.1 (refusal_number d.result) d.ensures.0 (went c.is_err.result d.result c.is_err.ensures.value c.if-is_err.false) in
    nothing_put _ s.out.now (30 * findings_most) (two_refused s.n.now s.sheet.now fine s.a s.b _ _ _ _ _ c.requires.1 d.ensures.1 first.ensures second.ensures c.requires.0 f.result f.ensures.0 _ c.in-Err.is)
