-- `sheet::test::relation_run` meets its contract. The loop's invariant: what is asked of all records is asked of those
-- from i on, and the relation that is kept is that of the record before i. Assumes nothing.
use mathlib.Core.Path.{◌≡◌, sym, ◌∙◌, ap}
use native.Mathlib.Omega.{arith}
use borrow.Author.Rules.{rules}
use Rattle.records.specs.Bytes.{chunk}
use Rattle.sheet.specs.between.Passes.{relation_passes, relation_after}
use Rattle.sheet.proofs.PassLaws.{cut_chunk, from_first_not, from_second_not, from_on, from_end, relation_run_start, relation_next, kept_next}
use Rattle.sheet.proofs.test.relation_run.Goals as goal

pub none_before-last-requires : goal.none_before-last-requires
none_before-last-requires c = search rules

pub loop-i-init : goal.loop-i-init
loop-i-init c =
    let s = c.args in
    (omega arith, λ d. absurd (omega arith), relation_run_start s.n s.slots.now)

pub overflow_mul-at : goal.overflow_mul-at
overflow_mul-at c = omega arith

pub overflow_add-at : goal.overflow_add-at
overflow_add-at c = omega arith

pub slice_bounds-relation_in-count : goal.slice_bounds-relation_in-count
slice_bounds-relation_in-count c = omega arith

pub slice_bounds-relation_in-start : goal.slice_bounds-relation_in-start
slice_bounds-relation_in-start c = omega arith

pub slice_bounds-relation_in-end : goal.slice_bounds-relation_in-end
slice_bounds-relation_in-end c = omega arith

pub relation_in-q-requires : goal.relation_in-q-requires
relation_in-q-requires c = search rules

pub overflow_add-at-in-loop-i : goal.overflow_add-at-in-loop-i
overflow_add-at-in-loop-i c = omega arith

pub slice_bounds-good_relation_record-count : goal.slice_bounds-good_relation_record-count
slice_bounds-good_relation_record-count c = omega arith

pub slice_bounds-good_relation_record-start : goal.slice_bounds-good_relation_record-start
slice_bounds-good_relation_record-start c = omega arith

pub slice_bounds-good_relation_record-end : goal.slice_bounds-good_relation_record-end
slice_bounds-good_relation_record-end c = omega arith

pub good_relation_record-requires : goal.good_relation_record-requires
good_relation_record-requires c = c.relation_in-q.ensures

pub comes_after-requires : goal.comes_after-requires
comes_after-requires c = search rules

pub overflow_add-i : goal.overflow_add-i
overflow_add-i c = omega arith

pub loop-i-smaller : goal.loop-i-smaller
loop-i-smaller c = omega arith

pub loop-i-preserved : goal.loop-i-preserved
loop-i-preserved c =
    let l = c.loop-i in
    let s = c.args in
    let q = c.relation_in-q in
    let g = c.good_relation_record in
    let p : g.result ≡ relation_passes (chunk l.i s.slots.now) = g.ensures ∙ ap relation_passes (cut_chunk s.slots.now l.i) in
    let o = c.comes_after.ensures ∙ relation_next s.slots.now l.i l.last q.result l.invariant.1 q.ensures in (
      omega arith,
      λ d. kept_next s.slots.now l.i q.result q.ensures,
      l.invariant.2
          ∙ from_on (λ j. relation_passes (chunk j s.slots.now)) (relation_after s.slots.now) s.n l.i (omega arith) (sym p ∙ c.if-good_relation_record.true) (sym o ∙ c.if-comes_after.true),
    )

pub returns-else-comes_after : goal.returns-else-comes_after
returns-else-comes_after c =
    let l = c.loop-i in
    let s = c.args in
    let q = c.relation_in-q in
    let g = c.good_relation_record in
    let p : g.result ≡ relation_passes (chunk l.i s.slots.now) = g.ensures ∙ ap relation_passes (cut_chunk s.slots.now l.i) in
    let o = c.comes_after.ensures ∙ relation_next s.slots.now l.i l.last q.result l.invariant.1 q.ensures in
    sym (l.invariant.2 ∙ from_second_not (λ j. relation_passes (chunk j s.slots.now)) (relation_after s.slots.now) s.n l.i (omega arith) (sym p ∙ c.if-good_relation_record.true) (sym o ∙ c.if-comes_after.false))

pub returns-else-good_relation_record : goal.returns-else-good_relation_record
returns-else-good_relation_record c =
    let l = c.loop-i in
    let s = c.args in
    let g = c.good_relation_record in
    let p : g.result ≡ relation_passes (chunk l.i s.slots.now) = g.ensures ∙ ap relation_passes (cut_chunk s.slots.now l.i) in
    sym (l.invariant.2 ∙ from_first_not (λ j. relation_passes (chunk j s.slots.now)) (relation_after s.slots.now) s.n l.i (omega arith) (sym p ∙ c.if-good_relation_record.false))

pub returns : goal.returns
returns c =
    let l = c.loop-i in
    let s = c.args in
    sym (l.invariant.2 ∙ from_end (λ j. relation_passes (chunk j s.slots.now)) (relation_after s.slots.now) s.n l.i (omega arith))
