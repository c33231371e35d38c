-- `findings::calls::early_refusal` meets its contract: by whether the areas are in range. Assumes
-- nothing.
use Rattle.std.proofs.Common.{sym, ◌∙◌}
use Rattle.findings.proofs.ListCalls.{early_network_alone, early_of_areas}
use Rattle.findings.proofs.calls.early_refusal.Goals as goal

pub returns-then-not-known : goal.returns-then-not-known
returns-then-not-known c = sym (early_of_areas c.args.n.now c.args.known c.if-not-known.true)

pub returns : goal.returns
returns c = c.check.ensures ∙ sym (early_network_alone c.args.n.now c.args.known c.if-not-known.false)
