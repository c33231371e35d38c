-- `strakewhip::entering::entered` meets its contract: the buffers do not fit, the network is refused, or read. Assumes
-- nothing.
use mathlib.Core.Path.{refl, ap}
use Rattle.std.specs.Prelude.{Err}
use Rattle.replies.specs.Replies.{by_file}
use Rattle.strakewhip.specs.Calls.{entering}
use Rattle.strakewhip.proofs.entering.entered.Goals as goal

pub returns-then-not-fits : goal.returns-then-not-fits
unfolding entering
returns-then-not-fits c = rw c.if-not-fits.true (ap (λ r. Err r) c.plain.ensures)

pub returns-in-Ok : goal.returns-in-Ok
unfolding entering by_file
returns-in-Ok c = rw (c.if-not-fits.false, ← c.in-Ok.ensures) refl

pub returns-in-Err : goal.returns-in-Err
unfolding entering by_file
returns-in-Err c = rw (c.if-not-fits.false, ← c.in-Err.ensures) (ap (λ r. Err r) c.from.ensures)
