-- `sheet::test::visit_run` meets its contract. The loop's invariant: what is asked of all records is asked of those
-- from i on, and the train that is kept is that of the record before i. Assumes nothing.
use Prim.Native.Nat.{ℕ, ◌+◌, ◌*◌, ◌-◌}
use mathlib.Core.Bool.{Bool, true, false, ◌&&◌}
use mathlib.Core.List.{List}
use lib.ListN.{take, drop}
use mathlib.Core.Path.{◌≡◌, refl, sym, ◌∙◌, ap}
use native.Mathlib.Omega.{arith}
use lib.Dec.{ltb}
use borrow.Author.Rules.{rules}
use borrow.Author.Tests.{lt-ltb, le-ltb}
use Rattle.records.specs.Bytes.{chunk}
use Rattle.sheet.specs.Types.{Station, Network}
use Rattle.sheet.specs.between.Passes.{visit_passes, passing_train, train_after}
use Rattle.sheet.proofs.PassLaws.{from_not, from_both, from_end, visit_run_start, train_before, train_kept, train_next}
use Rattle.sheet.proofs.LinkRows.{place_low, row_read}
use Rattle.sheet.proofs.test.visit_run.Goals as goal
use Rattle.sheet.proofs.test.visit_run.Goals.{then-good, else-good}

passes : (last t : ℕ) (b : List ℕ) (i : ℕ) (n : Network) (s : Station) → last ≡ train_before b i → t ≡ passing_train n s (take (16 * i + 16 - 16 * i) (drop (16 * i) b))
    → (x : Bool) → ltb last t ≡ x → (visit_passes n s (chunk i b) && train_after b i) ≡ x
passes last t b i n s e p x q = sym (ap (λ (k : ℕ). ltb k t) e ∙ train_next b i n s t p) ∙ q

pub tracks_of-tracks-requires : goal.tracks_of-tracks-requires
tracks_of-tracks-requires c = search rules

pub loop-i-init : goal.loop-i-init
unfolding train_before
loop-i-init c =
    let s = c.args in
    (omega arith, refl, visit_run_start s.network.now s.s s.n s.slots.now)

pub overflow_mul-at : goal.overflow_mul-at
overflow_mul-at c = omega arith

pub overflow_add-at : goal.overflow_add-at
overflow_add-at c = omega arith

pub bounds-slots-at : goal.bounds-slots-at
bounds-slots-at c = omega arith

pub place_of-requires : goal.place_of-requires
place_of-requires c = search rules

pub offset_bounds-network-place_of : goal.offset_bounds-network-place_of
offset_bounds-network-place_of c = omega (arith, place_low _ _ c.place_of.ensures)

pub bounds-network-place_of : goal.bounds-network-place_of
bounds-network-place_of c = omega (arith, place_low _ _ c.place_of.ensures)

pub overflow_add-at-in-loop-i : goal.overflow_add-at-in-loop-i
overflow_add-at-in-loop-i c = omega arith

pub bounds-slots-at-in-loop-i : goal.bounds-slots-at-in-loop-i
bounds-slots-at-in-loop-i c = omega arith

pub place_of-requires-in-loop-i : goal.place_of-requires-in-loop-i
place_of-requires-in-loop-i c = search rules

pub offset_bounds-network-place_of-in-loop-i : goal.offset_bounds-network-place_of-in-loop-i
offset_bounds-network-place_of-in-loop-i c = omega (arith, place_low _ _ c.place_of-in-loop-i.ensures)

pub bounds-network-place_of-in-loop-i : goal.bounds-network-place_of-in-loop-i
bounds-network-place_of-in-loop-i c = omega (arith, place_low _ _ c.place_of-in-loop-i.ensures)

pub overflow_add-at-then-good : goal.overflow_add-at-then-good
overflow_add-at-then-good c = omega arith

pub slice_bounds-known_train-count : goal.slice_bounds-known_train-count
slice_bounds-known_train-count c = omega arith

pub slice_bounds-known_train-start : goal.slice_bounds-known_train-start
slice_bounds-known_train-start c = omega arith

pub slice_bounds-known_train-end : goal.slice_bounds-known_train-end
slice_bounds-known_train-end c = omega arith

pub known_train-t-requires : goal.known_train-t-requires
known_train-t-requires c =
    let l = c.loop-i in
    let s = c.args in (
      c.tracks_of-tracks.ensures,
      c.requires.1 c.if-good.true,
      row_read s.network.now s.slots.now l.i 10 c.place_of.result (omega arith) c.place_of.ensures,
      row_read s.network.now s.slots.now l.i 12 c.place_of-in-loop-i.result (omega arith) c.place_of-in-loop-i.ensures,
    )

pub overflow_add-at-else-good : goal.overflow_add-at-else-good
overflow_add-at-else-good c = omega arith

pub slice_bounds-any_train-count : goal.slice_bounds-any_train-count
slice_bounds-any_train-count c = omega arith

pub slice_bounds-any_train-start : goal.slice_bounds-any_train-start
slice_bounds-any_train-start c = omega arith

pub slice_bounds-any_train-end : goal.slice_bounds-any_train-end
slice_bounds-any_train-end c = omega arith

pub any_train-t-requires : goal.any_train-t-requires
any_train-t-requires c = c.tracks_of-tracks.ensures

pub overflow_add-i : goal.overflow_add-i
overflow_add-i c = omega arith

pub loop-i-smaller : goal.loop-i-smaller
loop-i-smaller c = omega arith

pub loop-i-preserved : goal.loop-i-preserved
loop-i-preserved c =
    let l = c.loop-i in
    let s = c.args in
    let t = c.if-good in
    let same : t.t ≡ passing_train s.network.now s.s (take (16 * l.i + 16 - 16 * l.i) (drop (16 * l.i) s.slots.now)) = elim t.branch [ then-good w ↦ w.t-is ∙ w.known_train-t.ensures | else-good w ↦ w.t-is ∙ w.any_train-t.ensures ] in
    let good = passes l.last t.t s.slots.now l.i s.network.now s.s l.invariant.1 same true (lt-ltb _ _ c.if-last-t.true) in (
      omega arith,
      train_kept s.slots.now l.i s.network.now s.s t.t same good,
      l.invariant.2 ∙ from_both (λ j. visit_passes s.network.now s.s (chunk j s.slots.now)) (train_after s.slots.now) s.n l.i (omega arith) good,
    )

pub returns-else-last-t : goal.returns-else-last-t
returns-else-last-t c =
    let l = c.loop-i in
    let s = c.args in
    let t = c.if-good in
    let same : t.t ≡ passing_train s.network.now s.s (take (16 * l.i + 16 - 16 * l.i) (drop (16 * l.i) s.slots.now)) = elim t.branch [ then-good w ↦ w.t-is ∙ w.known_train-t.ensures | else-good w ↦ w.t-is ∙ w.any_train-t.ensures ] in
    let bad = passes l.last t.t s.slots.now l.i s.network.now s.s l.invariant.1 same false (le-ltb _ _ c.if-last-t.false) in
    sym (l.invariant.2 ∙ from_not (λ j. visit_passes s.network.now s.s (chunk j s.slots.now)) (train_after s.slots.now) s.n l.i (omega arith) bad)

pub returns : goal.returns
returns c =
    let l = c.loop-i in
    let s = c.args in
    sym (l.invariant.2 ∙ from_end (λ j. visit_passes s.network.now s.s (chunk j s.slots.now)) (train_after s.slots.now) s.n l.i (omega arith))
