-- `text::words::put_head` meets its contract: behind the letter, so many words are put. Assumes nothing.
use native.Mathlib.Omega.{arith}
use mathlib.Core.List.{[], ◌∷◌, flat_map}
use Rattle.listings.specs.Text.{word, head}
use Rattle.text.proofs.PutParts.{none_put, one_put, all_put, puts_two}
use Rattle.text.proofs.words.put_head.Goals as goal

pub loop-x-init : goal.loop-x-init
loop-x-init c = let a = c.args in none_put word a.xs.now 11 _ _

pub loop-x-preserved : goal.loop-x-preserved
loop-x-preserved c = one_put word _ 11 _ _ _ _ _ _ _ 0 c.loop-x-test.true c.loop-x.invariant c.put_word-next.ensures

pub returns : goal.returns
unfolding head
returns c =
    let a = c.args in
    let q = c.put_byte-next.ensures in
    let all = all_put word _ 11 _ _ _ _ _ c.loop-x-test.false c.loop-x.invariant in
    let both = puts_two a.at _ _ (a.letter ∷ []) (flat_map word a.xs.now) a.out.now _ _ 1 _ (q.0, q.1, omega (arith, q.0)) all in
    (both.0, both.1, omega (arith, both.2, c.loop-x.auto.x-index-end))
