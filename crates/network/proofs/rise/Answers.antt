-- `network::rise` meets its contract: a turn looks at the first of the rows that are left.
use Rattle.std.proofs.Common.{◌≡◌, sym, ◌∙◌, ap, arith, ℕ, ◌+◌, ◌<◌, ◌≤◌, Bool, true, false, List, ◌∷◌, length, drop, slice_index_or}
use Rattle.base.proofs.Lengths.{drop_next}
use borrow.Author.Tests.{lt-ltb, le-ltb}
use lib.ListN.{drop_of_length-le}
use Rattle.network.proofs.RowsInUse.{chained, rises, and_no}
use Rattle.network.proofs.rise.Goals as goal

module _ {A : Type 0} (ok : A → Bool) (f : A → ℕ) (m i : ℕ) (xs : List A) (x : A) (h : i < length xs) (e : x ≡ slice_index_or xs i x) where
  first_row : drop i xs ≡ x ∷ drop (i + 1) xs
  first_row = drop_next xs i x h ∙ ap (λ (y : A). y ∷ drop (i + 1) xs) (sym e)

  out_of_range : ok x ≡ false → chained ok f m (drop i xs) ≡ false
  unfolding chained
  out_of_range p = rw (first_row, p)

  not_above : f x ≤ m → chained ok f m (drop i xs) ≡ false
  unfolding chained
  not_above p = rw (first_row, le-ltb m (f x) p, and_no (ok x))

  above : ok x ≡ true → m < f x → chained ok f m (drop i xs) ≡ chained ok f (f x) (drop (i + 1) xs)
  unfolding chained
  above p q = rw (first_row, p, lt-ltb m (f x) q)

at_end : {A : Type 0} (ok : A → Bool) (f : A → ℕ) (m i : ℕ) (xs : List A) → length xs ≤ i → chained ok f m (drop i xs) ≡ true
unfolding chained
at_end ok f m i xs h = rw (drop_of_length-le xs {i = i} h)

pub returns-then-not-is_valid : goal.returns-then-not-is_valid
returns-then-not-is_valid g c =
    let r = g.R.Row in
    let l = c.loop-row in
    sym (sym (rises r.in_range r.number_of g.met.R.Row.positive c.args.rows.now) ∙ l.invariant.1
    ∙ out_of_range r.in_range r.number_of l.last l.row-index c.args.rows.now _ c.loop-row-test.true c.row-item.is (sym c.is_valid.ensures ∙ c.if-not-is_valid.true))

pub returns-then-number-last : goal.returns-then-number-last
returns-then-number-last g c =
    let r = g.R.Row in
    let l = c.loop-row in
    sym (sym (rises r.in_range r.number_of g.met.R.Row.positive c.args.rows.now) ∙ l.invariant.1
    ∙ not_above r.in_range r.number_of l.last l.row-index c.args.rows.now _ c.loop-row-test.true c.row-item.is (omega (arith, c.key-number.ensures)))

pub loop-row-preserved : goal.loop-row-preserved
loop-row-preserved g c =
    let r = g.R.Row in
    let l = c.loop-row in (
      omega arith,
      l.invariant.1 ∙ above r.in_range r.number_of l.last l.row-index c.args.rows.now _ c.loop-row-test.true c.row-item.is
          (sym c.is_valid.ensures ∙ c.if-not-is_valid.false) (omega (arith, c.key-number.ensures)) ∙ rw c.key-number.ensures,
    )

pub returns : goal.returns
returns g c =
    let r = g.R.Row in
    let l = c.loop-row in
    sym (sym (rises r.in_range r.number_of g.met.R.Row.positive c.args.rows.now) ∙ l.invariant.1
    ∙ at_end r.in_range r.number_of l.last l.row-index c.args.rows.now c.loop-row-test.false)
