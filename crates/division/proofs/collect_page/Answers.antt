-- `division::collect_page` meets its contract: each arm is one call, on parts of 512 bytes. Assumes nothing.
use Rattle.std.proofs.Common.{◌+◌, ◌*◌, ◌-◌, ◌≡◌, ◌∙◌, ap, arith, take, drop}
use native.Mathlib.Nat.{add-sub_cancel_left}
use Rattle.records.specs.Bytes.{zeros}
use Rattle.division.proofs.CopyLaws.{collects, collects_none}
use Rattle.division.proofs.collect_page.Goals as goal

pub returns-then-a-eq0 : goal.returns-then-a-eq0
returns-then-a-eq0 c = c.fill.ensures.after (λ y e. e) ∙ ap zeros c.requires.0 ∙ collects_none c.args.division.now c.args.i c.args.a c.if-a-eq0.true

pub returns : goal.returns
returns c =
    let at = 8192 * (c.from.result - 1) + 512 * c.args.i in
    let e : take (at + 512 - at) (drop at c.args.division.now) ≡ take 512 (drop (8192 * (c.args.a - 1) + 512 * c.args.i) c.args.division.now) =
    rw (add-sub_cancel_left at 512, c.from.ensures) in
    c.copy_from_slice.ensures.after ∙ e ∙ collects c.args.division.now c.args.i c.args.a (omega arith) (omega arith)
