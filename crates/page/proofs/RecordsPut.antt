-- A record put in or taken out on a row of slots of a page: what a callee that was lent the part from the record's
-- place on left there, said of the slots and of the page. Both sides are the bytes before the place, the new ones, and
-- the bytes behind. Assumes nothing.
use Prim.Native.Nat.{ℕ, ◌+◌, ◌*◌, ◌-◌, ◌≤◌, ◌<◌}
use mathlib.Core.Path.{◌≡◌, sym, ap, ◌∙◌}
use mathlib.Core.Bool.{true, false}
use mathlib.Core.List.{List, ◌++◌, append_assoc}
use native.Mathlib.Nat.{add_assoc}
use native.Mathlib.Omega.{arith}
use lib.ListN.{length, get_or, set, take, drop, length-append, length-drop, length-replicate}
use lib.Seq.{drop-drop, take-add, take-take, length-take-le}
use borrow.Author.Tests.{le-leb, lt-leb, eq-eqb, ne_eqb}
use Rattle.records.specs.Bytes.{zeros, splice, fronted, closed}
use Rattle.page.specs.between.Changes.{put_in, take_out, with_record, without_record, counts_to}

-- a write behind a front
pub splice_past : (b new : List ℕ) (from j : ℕ) → take from b ++ splice j new (drop from b) ≡ splice (from + j) new b
unfolding splice
splice_past b new from j =
    sym (append_assoc (take from b) (take j (drop from b)) (new ++ drop (j + length new) (drop from b)))
    ∙ rw (← take-add from j b, drop-drop (j + length new) from b, add_assoc from j (length new))

-- a part of k bytes that was lent, said of the slots that it lies on
pub lent_whole : (b new : List ℕ) (from j k : ℕ) → length new ≡ k
    → take (from + j) b ++ (new ++ drop k (drop (from + j) b)) ≡ take from b ++ splice j new (drop from b)
unfolding splice
lent_whole b new from j k e =
    rw (drop-drop k (from + j) b, ← e) (sym (splice_past b new from j))

-- a record put in front of the part
pub put_whole : (b new y : List ℕ) (from i n : ℕ) → length new ≡ 16 → i ≤ n → from + 16 * n + 16 ≤ length b
    → y ≡ fronted new (take (from + 16 * n + 16 - (from + 16 * i)) (drop (from + 16 * i) b))
    → take (from + 16 * i) b ++ (y ++ drop (from + 16 * n + 16 - (from + 16 * i)) (drop (from + 16 * i) b)) ≡ take from b ++ put_in n i new (drop from b)
unfolding fronted put_in
put_whole b new y from i n many h room e =
    let at = from + 16 * i in
    let k = from + 16 * n + 16 - at in
    let m = 16 * (n - i) in
    let wide : k ≡ m + 16 = omega arith in
    let less : k - 16 ≡ m = omega arith in
    let part : length (take k (drop at b)) ≡ k = length-take-le k (drop at b) (omega (arith, length-drop at b)) in
    let short : length (take m (drop at b)) ≡ m = length-take-le m (drop at b) (omega (arith, length-drop at b)) in
    let is : y ≡ new ++ take m (drop at b) =
    e ∙ rw (le-leb 16 (length (take k (drop at b))) (omega arith), part, less, take-take m k (drop at b) (omega arith)) in
    lent_whole b y from (16 * i) k (ap length is ∙ length-append new (take m (drop at b)) ∙ omega arith)
    ∙ ap (λ (z : List ℕ). take from b ++ splice (16 * i) z (drop from b)) (is ∙ rw (← drop-drop (16 * i) from b))

-- the same where the slots is all there is
pub put_part : (b new y : List ℕ) (i n : ℕ) → length new ≡ 16 → i ≤ n → 16 * n + 16 ≤ length b
    → y ≡ fronted new (take (16 * n + 16 - 16 * i) (drop (16 * i) b))
    → take (16 * i) b ++ (y ++ drop (16 * n + 16 - 16 * i) (drop (16 * i) b)) ≡ put_in n i new b
put_part b new y i n many h room e =
    let at : 16 * i ≡ 0 + 16 * i = omega arith in
    let k : 16 * n + 16 - 16 * i ≡ 0 + 16 * n + 16 - (0 + 16 * i) = omega arith in
    (λ j. take (at j) b ++ (y ++ drop (k j) (drop (at j) b)))
    ∙ put_whole b new y 0 i n many h (omega arith) (e ∙ (λ j. fronted new (take (k j) (drop (at j) b))))

-- the front record taken out of the part
pub take_whole : (b y : List ℕ) (from i n : ℕ) → i < n → from + 16 * n ≤ length b
    → y ≡ closed (take (from + 16 * n - (from + 16 * i)) (drop (from + 16 * i) b))
    → take (from + 16 * i) b ++ (y ++ drop (from + 16 * n - (from + 16 * i)) (drop (from + 16 * i) b)) ≡ take from b ++ take_out n i (drop from b)
unfolding closed take_out
take_whole b y from i n h room e =
    let at = from + 16 * i in
    let k = from + 16 * n - at in
    let wide : k ≡ 16 * (n - i) = omega arith in
    let part : length (take k (drop at b)) ≡ k = length-take-le k (drop at b) (omega (arith, length-drop at b)) in
    let is : y ≡ drop 16 (take k (drop at b)) ++ zeros 16 = e ∙ rw (le-leb 16 (length (take k (drop at b))) (omega arith)) in
    let many : length y ≡ k =
    ap length is ∙ length-append (drop 16 (take k (drop at b))) (zeros 16) ∙ omega (arith, length-drop 16 (take k (drop at b)), length-replicate {A = ℕ} 16 0) in
    lent_whole b y from (16 * i) k many
    ∙ ap (λ (z : List ℕ). take from b ++ splice (16 * i) z (drop from b)) (e ∙ rw (wide, ← drop-drop (16 * i) from b))

-- with the count
pub put_done : (b new y : List ℕ) (h from i n : ℕ) → n ≡ get_or b h 0 → length new ≡ 16 → i ≤ n → from + 16 * n + 16 ≤ length b
    → y ≡ fronted new (take (from + 16 * n + 16 - (from + 16 * i)) (drop (from + 16 * i) b))
    → set (take (from + 16 * i) b ++ (y ++ drop (from + 16 * n + 16 - (from + 16 * i)) (drop (from + 16 * i) b))) h (n + 1) ≡ with_record h from i new b
unfolding with_record
put_done b new y h from i n count many inside room e =
    ap (λ (z : List ℕ). set z h (n + 1)) (put_whole b new y from i n many inside room e)
    ∙ ap (λ (m : ℕ). set (take from b ++ put_in m i new (drop from b)) h (m + 1)) count

pub take_done : (b y : List ℕ) (h from i n : ℕ) → n ≡ get_or b h 0 → i < n → from + 16 * n ≤ length b
    → y ≡ closed (take (from + 16 * n - (from + 16 * i)) (drop (from + 16 * i) b))
    → set (take (from + 16 * i) b ++ (y ++ drop (from + 16 * n - (from + 16 * i)) (drop (from + 16 * i) b))) h (n - 1) ≡ without_record h from i b
unfolding without_record
take_done b y h from i n count inside room e =
    ap (λ (z : List ℕ). set z h (n - 1)) (take_whole b y from i n inside room e)
    ∙ ap (λ (m : ℕ). set (take from b ++ take_out m i (drop from b)) h (m - 1)) count

-- a record written over another
pub written_over : (b new y : List ℕ) (at : ℕ) → length new ≡ 16 → y ≡ new → take at b ++ (y ++ drop (at + 16 - at) (drop at b)) ≡ splice at new b
unfolding splice
written_over b new y at many is =
    let k : at + 16 - at ≡ 16 = omega arith in
    rw (is, k, drop-drop 16 at b, many)

-- whether the page counts few enough

module _ (h k : ℕ) (page : List ℕ) where
  pub counts_short : ¬ (length page ≡ 512) → counts_to h k page ≡ false
  unfolding counts_to
  counts_short n = rw (ne_eqb (length page) 512 n)

  pub counts_over : (n : ℕ) → length page ≡ 512 → n ≡ get_or page h 0 → k < n → counts_to h k page ≡ false
  unfolding counts_to
  counts_over n e c l = rw (eq-eqb (length page) 512 e, ← c, lt-leb n k l)

  pub counts_few : (n : ℕ) → length page ≡ 512 → n ≡ get_or page h 0 → n ≤ k → counts_to h k page ≡ true
  unfolding counts_to
  counts_few n e c l = rw (eq-eqb (length page) 512 e, ← c, le-leb n k l)
