-- `page::slot` meets its contract: the part is left as it was where the relation is found, else the record is put in at
-- its place. Assumes nothing.
use Rattle.std.proofs.Common.{ℕ, List, ◌≡◌, true, false, length, sym, ap, ◌∙◌, arith, rules}
use borrow.Author.Tests.{lt-ltb, le-ltb}
use Rattle.records.proofs.RecordLaws.{relation_length}
use Rattle.page.specs.between.Changes.{put_in, is_slotted, slotted, slotted_count}
use Rattle.page.proofs.FindLaws.{is_it, comes_behind}
use Rattle.page.proofs.RecordsPut.{put_part}
use Rattle.page.proofs.slot.Goals as goal

pub returns-then-position-n : goal.returns-then-position-n
unfolding is_slotted slotted slotted_count
returns-then-position-n c =
    let s = c.args in
    let there = c.position.ensures.index (is_it s.relation s.part.now) (λ x b q. search (rules, q)) in
    let e : is_slotted s.relation s.n s.part.now ≡ true = rw (← there, lt-ltb c.position.result s.n c.if-position-n.true) in
    (sym (rw e), sym (rw e))

pub returns : goal.returns
unfolding is_slotted slotted slotted_count
returns c =
    let s = c.args in
    let there = c.position.ensures.index (is_it s.relation s.part.now) (λ x b q. search (rules, q)) in
    let e : is_slotted s.relation s.n s.part.now ≡ false = rw (← there, le-ltb c.position.result s.n c.if-position-n.false) in
    let place = c.position-i in
    let at = place.ensures.index (comes_behind s.relation s.part.now) (λ x b q. search (rules, q)) in
    let put = c.put_front in
    let new = c.relation_record in
    let many : length new.result ≡ 16 = ap length new.ensures ∙ relation_length s.relation in (
      sym (rw e),
      put_part s.part.now new.result put.new.part place.result s.n many place.ensures.bound (omega arith) put.ensures.1
          ∙ ap (λ (r : List ℕ). put_in s.n place.result r s.part.now) new.ensures
          ∙ sym (rw (e, ← at)),
    )
