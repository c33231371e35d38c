-- `fields::field::row` meets its contract. The loop's invariant: the numbers read stand in the first places, and the
-- row is those numbers and then what is left. Assumes nothing.
use Prim.Native.Nat.{ℕ, ◌+◌, ◌<◌, ◌≤◌, min}
use mathlib.Core.Path.{◌≡◌, refl, sym, ◌∙◌, ap}
use mathlib.Core.List.{List, [], ◌∷◌, map}
use native.Mathlib.Omega.{arith}
use lib.ListN.{length, get_or, set, take, drop, replicate, length-take, drop_of_length-le}
use lib.Seq.{take_all}
use Rattle.std.proofs.lemmas.List.{take_min}
use Rattle.base.proofs.Lengths.{drop_next}
use Rattle.base.specs.RefusalNumbers.{number_of}
use Rattle.timetable.specs.Formats.{Outcome, accepted, refused, field_at, read, row}
use Rattle.fields.specs.declared.field.Span.{Span}
use Rattle.fields.specs.between.Answers.{padded, filled, range_of}
use Rattle.fields.proofs.ReadLaws.{refused_told, prefixed, start, turn, stop, over, padded_next, padded_full, row_next, row_stop, row_over}
use Rattle.fields.proofs.field.row.Goals as goal
use Rattle.fields.proofs.field.row.Invariants.{left_at}

abbrev nothing : Span
nothing = record { lo = 0; hi = 0 }

module _ (file : List ℕ) (spans : List Span) (i place : ℕ) where
  taken : (v next : ℕ) → i < length spans → field_at (get_or spans i nothing).lo (get_or spans i nothing).hi file place ≡ accepted v next
      → left_at file spans i place ≡ prefixed (v ∷ []) (left_at file spans (i + 1) next)
  taken v next h e =
      ap (λ (l : List Span). read (row (map range_of l) []) file place) (drop_next spans i nothing h)
      ∙ row_next (range_of (get_or spans i nothing)) (map range_of (drop (i + 1) spans)) file place v next e

  stopped : (k p : ℕ) → i < length spans → field_at (get_or spans i nothing).lo (get_or spans i nothing).hi file place ≡ refused k p
      → left_at file spans i place ≡ refused k p
  stopped k p h e =
      ap (λ (l : List Span). read (row (map range_of l) []) file place) (drop_next spans i nothing h)
      ∙ row_stop (range_of (get_or spans i nothing)) (map range_of (drop (i + 1) spans)) file place k p e

  ended : length spans ≤ i → left_at file spans i place ≡ accepted [] place
  ended h = ap (λ (l : List Span). read (row (map range_of l) []) file place) (drop_of_length-le spans {i = i} h) ∙ row_over file place

-- the ranges in use are as many as there is room for
few : (n : ℕ) (spans : List Span) (k : ℕ) → k ≡ min n (length spans) → (length (take k spans) ≤ n) × (take k spans ≡ take n spans)
few n spans k e = (rw e (omega (arith, length-take (min n (length spans)) spans)), ap (λ (j : ℕ). take j spans) e ∙ take_min n spans)

pub loop-i-init : goal.loop-i-init
unfolding padded start
loop-i-init g c = (start _ _ refl, ap (λ (k : ℕ). replicate {A = ℕ} k 0) (omega arith))

-- what the numbers read tell of all ranges, and of a row that has room for them all
module _ (file : List ℕ) (spans : List Span) (at n k : ℕ) (e : k ≡ min n (length spans)) (o : Outcome (List ℕ)) (so : left_at file (take k spans) 0 at ≡ o) where
  told : filled n o ≡ filled n (left_at file (take n spans) 0 at)
  told = sym (ap (filled n) so) ∙ ap (λ (l : List Span). filled n (left_at file l 0 at)) (few n spans k e).1

  module _ (many : length spans ≡ n) where
    all : take k spans ≡ spans
    all = (few n spans k e).1 ∙ take_all n spans (omega (arith, many))

    whole : o ≡ left_at file spans 0 at
    whole = sym so ∙ ap (λ (l : List Span). left_at file l 0 at) all

pub returns-in_err-value-clause-told : goal.returns-in_err-value-clause-told
unfolding filled
returns-in_err-value-clause-told g c =
    let l = c.loop-i in
    let s = c.args in
    let e = c.in_err-value.field-0.0 in
    let used = take c.min.result s.spans.now in
    let q = stopped s.file.now used l.i l.place (number_of e.refusal) e.place (omega arith) (sym c.in_err-value.ensures) in
    refused_told c.from_residual.result e c.from_residual.ensures.1
    ∙ told s.file.now s.spans.now s.at g.row.N c.min.result c.min.ensures _ (stop _ _ _ l.invariant.0 (number_of e.refusal) e.place q)

pub returns-in_err-value-clause-whole : goal.returns-in_err-value-clause-whole
returns-in_err-value-clause-whole g c = λ many.
    let l = c.loop-i in
    let s = c.args in
    let e = c.in_err-value.field-0.0 in
    let used = take c.min.result s.spans.now in
    let q = stopped s.file.now used l.i l.place (number_of e.refusal) e.place (omega arith) (sym c.in_err-value.ensures) in
    refused_told c.from_residual.result e c.from_residual.ensures.1
    ∙ whole s.file.now s.spans.now s.at g.row.N c.min.result c.min.ensures _ (stop _ _ _ l.invariant.0 (number_of e.refusal) e.place q) many

pub loop-i-preserved : goal.loop-i-preserved
unfolding turn
loop-i-preserved g c =
    let l = c.loop-i in
    let s = c.args in
    let v = c.in_ok-value.value in
    let used = take c.min.result s.spans.now in
    let q = taken s.file.now used l.i l.place v c.in_ok-value.next (omega arith) (sym c.in_ok-value.ensures) in
    let f = l.invariant.0 in
    (turn _ _ _ f v _ q, ap (λ (w : List ℕ). set w l.i v) l.invariant.1 ∙ padded_next g.row.N 0 f.elements l.i v f.many (omega (arith, (few g.row.N s.spans.now c.min.result c.min.ensures).0)))

pub returns-clause-told : goal.returns-clause-told
unfolding filled
returns-clause-told g c =
    let l = c.loop-i in
    let s = c.args in
    let f = l.invariant.0 in
    let q = ended s.file.now (take c.min.result s.spans.now) l.i l.place (omega arith) in
    ap (λ (ns : List ℕ). accepted ns l.place) l.invariant.1
    ∙ told s.file.now s.spans.now s.at g.row.N c.min.result c.min.ensures _ (over _ _ _ f l.place q)

pub returns-clause-whole : goal.returns-clause-whole
returns-clause-whole g c = λ many.
    let l = c.loop-i in
    let s = c.args in
    let f = l.invariant.0 in
    let q = ended s.file.now (take c.min.result s.spans.now) l.i l.place (omega arith) in
    let used = ap (λ (x : List Span). length x) (all s.file.now s.spans.now s.at g.row.N c.min.result c.min.ensures _ (over _ _ _ f l.place q) many) in
    ap (λ (ns : List ℕ). accepted ns l.place) (l.invariant.1 ∙ padded_full g.row.N 0 f.elements (omega (arith, f.many, used, many)))
    ∙ whole s.file.now s.spans.now s.at g.row.N c.min.result c.min.ensures _ (over _ _ _ f l.place q) many
