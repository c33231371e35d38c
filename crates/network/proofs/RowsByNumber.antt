-- The lines of a good network by their numbers. Rows rise by number, so a row in use that has a line's number is the
-- first that has it, and so the line's. A row in use is in range and joins two listed stations, so a line that runs
-- from one station to another is in range, and both are listed. Assumes nothing.
use Prim.Native.Nat.{ℕ, zero, suc, ◌<◌}
use mathlib.Core.Path.{◌≡◌, ap}
use mathlib.Core.Bool.{Bool, ◌&&◌}
use mathlib.Core.List.{List, [], ◌∷◌}
use Rattle.std.specs.Prelude.{Some}
use native.Mathlib.Omega.{arith}
use lib.Dec.{T, eqb, ltb→lt, eqb→eq}
use lib.ListN.{length, get_or, length-take}
use lib.Seq.{get_or-take}
use borrow.Author.Tests.{eq-eqb, ne_eqb}
use Rattle.base.specs.Lists.{every, first, is, each_two}
use Rattle.base.proofs.Tests.{parts, or_cases, by_value, true_T, every_head, every_tail, every_both, every_at}
use Rattle.base.proofs.Sorted.{smaller, two_head, two_tail}
use Rattle.railway.specs.Ranges.{line_ok, same_station, same_line}
use Rattle.network.specs.Types.{Station, Line, LineRow, Network}
use Rattle.network.specs.Networks.{network_refusal, line_rows, line_row, line_row_ok, listed, ends_listed, way_open, row_runs, runs}
use Rattle.network.proofs.NetworkLaws.{line_number, network_facts}

module _ {A : Type 0} where
  -- among rising numbers, one that has the number is the first that has it
  first_at : (f : A → ℕ) (k : ℕ) (d : A) (xs : List A) (i : ℕ) → T (each_two (smaller f) xs) → i < length xs → f (get_or xs i d) ≡ k
      → first (λ x. eqb (f x) k) xs ≡ Some (get_or xs i d)
  unfolding first
  first_at f k d [] i t h e = absurd (omega arith)
  first_at f k d (x ∷ xs) zero t h e = rw (eq-eqb (f x) k e)
  first_at f k d (x ∷ xs) (suc i) t h e =
      let less = ltb→lt (f x) (f (get_or xs i d)) (every_at (smaller f x) xs i d (two_head (smaller f) x xs t) (omega arith)) in
      rw (ne_eqb (f x) k (λ q. omega arith)) (first_at f k d xs i (two_tail (smaller f) x xs t) (omega arith) e)

  -- what holds of the first that passes, where each is good and the first is told
  told_first : {P : Type 0} (p q ok : A → Bool) → ((x : A) → T (ok x) → T (p x) → T (q x) → P) → (xs : List A) → T (every ok xs) → T (is q (first p xs)) → P
  unfolding first
  told_first p q ok f [] t u = absurd u
  told_first p q ok f (x ∷ xs) t u =
      by_value (p x)
      (λ e. f x (every_head ok x xs t) (true_T (p x) e) (rw e at u))
      (λ e. told_first p q ok f xs (every_tail ok x xs t) (rw e at u))

module _ (n : Network) (good : network_refusal n ≡ 0) where
  -- a row in use that has a line's number is the line's
  pub row_at : (l : Line) (i : ℕ) (d : LineRow) → i < n.linecount → i < length n.lines → (get_or n.lines i d).line.0 ≡ l.0
      → line_row n l ≡ Some (get_or n.lines i d)
  unfolding line_row line_rows
  row_at l i d h g e =
      let same = get_or-take n.linecount n.lines i d h in
      rw same at (first_at line_number l.0 d (line_rows n) i (network_facts n good).lines_rise (simp length-take (omega arith)) (rw same e))

  -- a station of the same number is listed too
  listed_so : (a b : Station) → T (same_station a b) → T (listed n a) → T (listed n b)
  listed_so a b e t =
      let same : listed n a ≡ listed n b = ap (λ (k : ℕ). listed n (record { 0 = k })) (eqb→eq a.0 b.0 e) in
      rw same at t

  -- a line that runs is in range, and both stations are listed
  pub runs_joined : (l : Line) (from to : Station) → T (runs n l from to) → T (line_ok l) × T (listed n from) × T (listed n to)
  unfolding runs line_row line_row_ok ends_listed row_runs way_open
  runs_joined l from to t =
      told_first (λ r. same_line r.line l) (λ r. row_runs r from to) (λ r. line_row_ok r && ends_listed n r) joined (line_rows n)
      (every_both line_row_ok (ends_listed n) (line_rows n) (network_facts n good).line_rows_ok (network_facts n good).ends_listed) t
    where
      joined : (r : LineRow) → T (line_row_ok r && ends_listed n r) → T (same_line r.line l) → T (row_runs r from to)
          → T (line_ok l) × T (listed n from) × T (listed n to)
      joined r ok p q =
          let number : r.line.0 ≡ l.0 = eqb→eq r.line.0 l.0 p in
          let known : T (line_ok r.line) = search parts in
          let one : T (listed n r.first) = search parts in
          let other : T (listed n r.second) = search parts in (
            rw number at known,
            or_cases (way_open r.kind 2 r.first from r.second to) (way_open r.kind 1 r.second from r.first to) q
                (λ w. listed_so r.first from (search parts) one)
                (λ w. listed_so r.second from (search parts) other),
            or_cases (way_open r.kind 2 r.first from r.second to) (way_open r.kind 1 r.second from r.first to) q
                (λ w. listed_so r.second to (search parts) other)
                (λ w. listed_so r.first to (search parts) one),
          )
