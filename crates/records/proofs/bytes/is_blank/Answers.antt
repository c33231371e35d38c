-- `records::bytes::is_blank` meets its contract: a turn looks at the first of the bytes that are left. Assumes nothing.
use Rattle.std.proofs.Common.{sym, ◌∙◌, ap, arith, Bool, ◌&&◌}
use Rattle.base.proofs.Tests.{eqb_turned}
use Rattle.records.specs.Bytes.{blank}
use Rattle.records.proofs.ByteLaws.{blank_on, blank_over}
use Rattle.records.proofs.bytes.is_blank.Goals as goal

pub loop-x-preserved : goal.loop-x-preserved
loop-x-preserved c =
    let l = c.loop-x in
    (omega arith, l.invariant.1 ∙ blank_on c.args.b.now l.x-index (omega arith) l.clean _ (ap (λ (b : Bool). l.clean && b) (eqb_turned _ 0)))

pub returns : goal.returns
unfolding blank
returns c = sym (c.loop-x.invariant.1 ∙ blank_over c.loop-x.clean c.args.b.now c.loop-x.x-index (omega arith))
