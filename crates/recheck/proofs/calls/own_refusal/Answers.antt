-- `recheck::calls::own_refusal` meets its contract: the area comes first. Assumes nothing.
use Rattle.std.proofs.Common.{sym, ◌∙◌}
use Rattle.recheck.proofs.CallLaws.{own_by}
use Rattle.recheck.proofs.calls.own_refusal.Goals as goal

pub returns-then-not-is_known : goal.returns-then-not-is_known
returns-then-not-is_known c = sym (own_by c.args.extent c.args.e ∙ rw (← c.is_known.ensures, c.if-not-is_known.true))

pub returns : goal.returns
returns c = c.edit_refusal.ensures ∙ sym (own_by c.args.extent c.args.e ∙ rw (← c.is_known.ensures, c.if-not-is_known.false))
