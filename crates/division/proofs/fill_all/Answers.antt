-- `division::fill_all` meets its contract: a turn fills one sheet. Assumes nothing.
use Rattle.std.proofs.Common.{◌*◌, ◌≡◌, sym, ◌∙◌, length, take, drop, arith}
use Rattle.division.specs.between.Copies.{spread_all}
use Rattle.division.proofs.CopyLaws.{spread_all_size, spread_sheet}
use Rattle.sheet.proofs.FillLaws.{filled_next, filled_length, part_size, filled}
use Rattle.division.proofs.fill_all.Goals as goal

pub fill-requires : goal.fill-requires
fill-requires c =
    let l = c.loop-a in
    (part_size l.division (8192 * c.from-at.result) 8192 (omega arith), c.requires.1)

pub loop-a-preserved : goal.loop-a-preserved
loop-a-preserved c =
    let l = c.loop-a in
    let part = c.fill.new.part in
    let whole = spread_all c.args.areas c.args.sheet.now in
    let same = c.from-at.ensures in
    let size : length part ≡ 8192 = c.fill.auto.part ∙ part_size l.division (8192 * c.from-at.result) 8192 (omega arith) in
    let is : part ≡ take 8192 (drop (8192 * l.a) whole) =
    c.fill.ensures ∙ sym (spread_sheet c.args.areas c.args.sheet.now c.requires.1 l.a (omega arith)) in
    rw same (
      filled_length 8192 (8192 * l.a) l.division part size (omega arith) ∙ l.invariant.0,
      filled_next 8192 l.a l.division part whole size (omega arith) l.invariant.1 is,
    )

pub returns : goal.returns
returns c =
    let l = c.loop-a in
    filled 49152 l.division (spread_all c.args.areas c.args.sheet.now) (8192 * l.a) (omega arith) l.invariant.0
    (spread_all_size c.args.areas c.args.sheet.now c.requires.1) l.invariant.1
