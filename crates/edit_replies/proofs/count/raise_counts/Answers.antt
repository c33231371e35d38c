-- `edit_replies::count::raise_counts` meets its contract: each way to end is one law. Assumes nothing.
use mathlib.Core.Path.{◌≡◌, sym, ◌∙◌}
use mathlib.Core.Bool.{false}
use borrow.Author.Rules.{rules}
use lib.ListN.{length}
use Rattle.std.proofs.lemmas.Result.{err_from_is_err_and}
use Rattle.edit_replies.proofs.RaiseLaws.{raise_overfull, raise_faulty, raise_refused, raise_done}
use Rattle.edit_replies.proofs.count.raise_counts.Goals as goal

pub returns-then-is_overfull : goal.returns-then-is_overfull
returns-then-is_overfull c =
    let s = c.args in
    let y = c.tally_in-y in
    raise_overfull s.edit.now s.a s.counts.now y.result y.ensures (sym c.is_overfull.ensures ∙ c.if-is_overfull.true)

pub returns-in_err-e : goal.returns-in_err-e
returns-in_err-e c =
    let s = c.args in
    let y = c.tally_in-y in
    let r = c.in_err-e.ensures in
    let p = err_from_is_err_and c.from_residual.result c.from_residual.ensures.1 in
    rw (p.1, p.2, r.1) (raise_faulty s.edit.now s.a s.counts.now y.result y.ensures (sym c.is_overfull.ensures ∙ c.if-is_overfull.false) r.0 r.2)

pub returns-in_err-raised : goal.returns-in_err-raised
returns-in_err-raised c =
    let s = c.args in
    let y = c.tally_in-y in
    let r = c.in_err-raised in
    let b = c.from_residual-in_err-raised in
    let p = err_from_is_err_and b.result b.ensures.1 in
    let four : length s.counts.now ≡ 4 = search rules in
    rw (p.1, p.2)
    (raise_refused s.edit.now s.a s.counts.now y.result y.ensures (sym c.is_overfull.ensures ∙ c.if-is_overfull.false) c.in_ok-e.e c.in_ok-e.ensures four r.field-0.0 r.ensures.0)

pub returns : goal.returns
returns c =
    let s = c.args in
    let y = c.tally_in-y in
    let r = c.in_ok-raised in
    rw c.put_tally.ensures
    (raise_done s.edit.now s.a s.counts.now y.result y.ensures (sym c.is_overfull.ensures ∙ c.if-is_overfull.false) c.in_ok-e.e c.in_ok-e.ensures r.ensures.0 r.raised r.ensures.1)
