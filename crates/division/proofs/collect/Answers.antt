-- `division::collect` meets its contract: a turn fills one page. Assumes nothing.
use Rattle.std.proofs.Common.{◌*◌, ◌≡◌, sym, ◌∙◌, length, take, drop, arith}
use Rattle.division.specs.between.Copies.{collected}
use Rattle.division.proofs.CopyLaws.{high_at, collected_size, collected_row}
use Rattle.sheet.proofs.FillLaws.{filled_next, filled_length, part_size, filled}
use Rattle.division.proofs.collect.Goals as goal

pub collect_page-requires : goal.collect_page-requires
collect_page-requires c =
    let l = c.loop-i in
    (part_size l.sheet (512 * l.i) 512 (omega arith), c.requires.1, omega arith, high_at c.args.areas c.requires.2 l.i)

pub loop-i-preserved : goal.loop-i-preserved
loop-i-preserved c =
    let l = c.loop-i in
    let page = c.collect_page.new.page in
    let whole = collected c.args.areas c.args.division.now in
    let size : length page ≡ 512 = c.collect_page.auto.page ∙ part_size l.sheet (512 * l.i) 512 (omega arith) in
    let is : page ≡ take 512 (drop (512 * l.i) whole) =
    c.collect_page.ensures ∙ sym (collected_row c.args.areas c.args.division.now c.requires.2 c.requires.1 l.i (omega arith)) in (
      filled_length 512 (512 * l.i) l.sheet page size (omega arith) ∙ l.invariant.0,
      filled_next 512 l.i l.sheet page whole size (omega arith) l.invariant.1 is,
    )

pub returns : goal.returns
returns c =
    let l = c.loop-i in
    filled 8192 l.sheet (collected c.args.areas c.args.division.now) (512 * l.i) (omega arith) l.invariant.0
    (collected_size c.args.areas c.args.division.now c.requires.2 c.requires.1) l.invariant.1
