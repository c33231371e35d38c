-- `relation_files::reading::trains` meets its contract. The loop's invariant: the trains read stand in the first
-- places, and the list is those and then what is left to read. Assumes nothing.
use Prim.Native.Nat.{ℕ, suc, ◌+◌, ◌-◌, ◌<◌, ◌≤◌}
use mathlib.Core.Path.{◌≡◌, refl, sym, ◌∙◌, ap}
use mathlib.Core.Bool.{Bool}
use mathlib.Core.List.{List, [], ◌∷◌}
use native.Mathlib.Omega.{arith}
use lib.ListN.{set}
use Rattle.timetable.specs.Formats.{accepted, refused, field_at, least, floor_after}
use Rattle.std.proofs.lemmas.Result.{err_from_is_err_and}
use Rattle.base.specs.RefusalNumbers.{number_of}
use Rattle.fields.specs.between.Answers.{padded}
use Rattle.fields.proofs.ReadLaws.{prefixed, start, turn, stop, over, padded_next}
use Rattle.relation_files.proofs.ReadingLaws.{least_train, train_taken, train_refused, trains_over}
use Rattle.relation_files.proofs.reading.trains.Goals as goal
use Rattle.relation_files.proofs.reading.trains.Invariants.{left_at}

module _ (file : List ℕ) (rise : Bool) (n i before place : ℕ) (floor : List ℕ) where
  taken : i < n → (t next : ℕ) → field_at (least (least_train rise before) floor) 9999 file place ≡ accepted t next
      → left_at file rise (n - i) before floor place ≡ prefixed (t ∷ []) (left_at file rise (n - (i + 1)) t (floor_after t floor) next)
  taken h t next e = let m : n - i ≡ suc (n - (i + 1)) = omega arith in rw m (train_taken rise before floor file place (n - (i + 1)) t next e)

  stopped : i < n → (k p : ℕ) → field_at (least (least_train rise before) floor) 9999 file place ≡ refused k p → left_at file rise (n - i) before floor place ≡ refused k p
  stopped h k p e = let m : n - i ≡ suc (n - (i + 1)) = omega arith in rw m (train_refused rise before floor file place (n - (i + 1)) k p e)

  ended : n ≤ i → left_at file rise (n - i) before floor place ≡ accepted [] place
  ended h = let m : n - i ≡ 0 = omega arith in rw m (trains_over rise before floor file place)

pub loop-i-init : goal.loop-i-init
unfolding padded start
loop-i-init c =
    let s = c.args in
    let m : s.count - 0 ≡ s.count = omega arith in
    (omega arith, (start _ _ (rw m), refl))

pub returns-in_err-t : goal.returns-in_err-t
returns-in_err-t c =
    let s = c.args in
    let l = c.loop-i in
    let e = c.in_err-t.field-0.0 in
    let p = err_from_is_err_and c.from_residual.result c.from_residual.ensures.1 in
    let o = sym (c.in_err-t.ensures ∙ ap (λ (lo : ℕ). field_at (least lo l.left.now) 9999 s.file.now l.place) c.least_train.ensures) in
    let q = stopped s.file.now s.rise s.count l.i l.before l.place l.left.now (omega arith) (number_of e.refusal) e.place o in
    rw (p.1, p.2) (stop _ _ _ l.invariant.1.0 (number_of e.refusal) e.place q)

pub loop-i-preserved : goal.loop-i-preserved
unfolding turn
loop-i-preserved c =
    let s = c.args in
    let l = c.loop-i in
    let m = c.in_ok-t in
    let o = sym (m.ensures ∙ ap (λ (lo : ℕ). field_at (least lo l.left.now) 9999 s.file.now l.place) c.least_train.ensures) in
    let q = taken s.file.now s.rise s.count l.i l.before l.place l.left.now (omega arith) m.t m.next o
    ∙ ap (λ (x : List ℕ). prefixed (m.t ∷ []) (left_at s.file.now s.rise (s.count - (l.i + 1)) m.t x m.next)) (sym c.floor_after-left.ensures) in
    let f = l.invariant.1.0 in (
      omega arith,
      (
        turn _ _ _ f m.t _ q,
        ap (λ (v : List ℕ). set v l.i m.t) l.invariant.1.1 ∙ padded_next 4 0 f.elements l.i m.t f.many (omega (arith, c.requires)),
      ),
    )

pub returns : goal.returns
returns c =
    let s = c.args in
    let l = c.loop-i in
    let f = l.invariant.1.0 in
    let q = ended s.file.now s.rise s.count l.i l.before l.place l.left.now (omega arith) in
    (f.elements, over _ _ _ f l.place q, l.invariant.1.1)
