-- `division::fill` meets its contract: each turn fills one page more; after the last turn all are filled. Assumes
-- nothing.
use Rattle.std.proofs.Common.{◌*◌, ◌≡◌, sym, ◌∙◌, length, take, drop, arith}
use native.Mathlib.Nat.{add-sub_cancel_left}
use Rattle.division.specs.between.Copies.{spread}
use Rattle.division.proofs.CopyLaws.{spread_size, spread_page}
use Rattle.sheet.proofs.FillLaws.{filled_next, filled_length, part_size, filled}
use Rattle.division.proofs.fill.Goals as goal

pub keep_page-requires : goal.keep_page-requires
keep_page-requires c =
    let l = c.loop-i in
    (part_size l.part (512 * l.i) 512 (omega arith), part_size c.args.sheet.now (512 * l.i) 512 (omega arith))

pub loop-i-preserved : goal.loop-i-preserved
loop-i-preserved c =
    let l = c.loop-i in
    let page = c.keep_page.new.page in
    let sheet = c.args.sheet.now in
    let size : length page ≡ 512 = c.keep_page.auto.page ∙ part_size l.part (512 * l.i) 512 (omega arith) in
    let is : page ≡ take 512 (drop (512 * l.i) (spread c.args.areas sheet c.args.a)) =
    rw (add-sub_cancel_left (512 * l.i) 512) at c.keep_page.ensures
    ∙ sym (spread_page c.args.areas sheet c.requires.1 c.args.a l.i (omega arith)) in (
      filled_length 512 (512 * l.i) l.part page size (omega arith) ∙ l.invariant.0,
      filled_next 512 l.i l.part page (spread c.args.areas sheet c.args.a) size (omega arith) l.invariant.1 is,
    )

pub returns : goal.returns
returns c =
    let l = c.loop-i in
    filled 8192 l.part (spread c.args.areas c.args.sheet.now c.args.a) (512 * l.i) (omega arith) l.invariant.0
    (spread_size c.args.areas c.args.sheet.now c.requires.1 c.args.a) l.invariant.1
