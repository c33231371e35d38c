-- `fields::put::put_bytes` meets its contract: the number at the head of three bytes, of which as many are put as it
-- takes. Assumes nothing.
use mathlib.Core.Path.{refl, sym, ◌∙◌}
use native.Mathlib.Omega.{arith}
use Rattle.fields.proofs.ByteLaws.{put_one, put_both, put_three}
use Rattle.fields.proofs.put.put_bytes.Goals as goal

pub returns-then-w-eq1 : goal.returns-then-w-eq1
returns-then-w-eq1 c =
    let s = c.args in
    let w = c.write-w in
    let p = c.put_byte.ensures in
    let x = put_one s.x _ _ (omega arith) refl w.ensures.1 s.at s.out.now (sym w.ensures.0 ∙ c.if-w-eq1.true) in
    (x.0, p ∙ x.1, omega arith)

pub returns-then-w-eq2 : goal.returns-then-w-eq2
returns-then-w-eq2 c =
    let s = c.args in
    let w = c.write-w in
    let p = c.put_byte.ensures in
    let q = c.put_byte-2.ensures in
    let x = put_both s.x _ _ (omega arith) refl w.ensures.1 s.at s.out.now (sym w.ensures.0 ∙ c.if-w-eq2.true) in
    (x.0, q ∙ rw p x.1, omega arith)

pub returns : goal.returns
returns c =
    let s = c.args in
    let w = c.write-w in
    let p = c.put_byte.ensures in
    let q = c.put_byte-2.ensures in
    let r = c.put_byte-3.ensures in
    let x = put_three s.x _ _ (omega arith) refl w.ensures.1 s.at s.out.now
    (λ z. c.if-w-eq1.false (w.ensures.0 ∙ z))
    (λ z. c.if-w-eq2.false (w.ensures.0 ∙ z)) in
    (x.0, r ∙ rw (q, p) x.1, omega arith)
