-- `network_writing::writing::write_network` meets its contract: a pass over a spare byte counts, and the same pass
-- writes. Assumes nothing.
use mathlib.Core.Path.{sym, ◌∙◌}
use Rattle.std.proofs.lemmas.Result.{err_from_is_err_and}
use Rattle.network_writing.proofs.WritingLaws.{network_bad, network_short, network_fits}
use Rattle.network_writing.proofs.writing.write_network.Goals as goal

pub returns-in_err-check : goal.returns-in_err-check
returns-in_err-check c =
    let s = c.args in
    let p = err_from_is_err_and c.from_residual.result c.from_residual.ensures.1 in
    rw (p.1, p.2) (network_bad s.n.now s.out.now c.in_err-check.field-0.0 c.in_err-check.ensures)

pub returns-then-out-needed : goal.returns-then-out-needed
returns-then-out-needed c =
    let s = c.args in
    let p = c.put_network-needed in
    network_short s.n.now s.out.now (sym c.in_ok-check.ensures) p.result p.ensures.0 c.if-out-needed.true

pub returns : goal.returns
returns c =
    let s = c.args in
    let p = c.put_network-needed in
    let x = network_fits s.n.now s.out.now (sym c.in_ok-check.ensures) p.result p.ensures.0 c.if-out-needed.false in
    (x.0, c.put_network.ensures.1 ∙ x.1)
