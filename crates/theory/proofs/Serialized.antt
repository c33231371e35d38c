-- Local edits that work at places of which each has an order of its own are a run of any list along which the positions
-- rise at each place. By the first of the list: what it reads is what stands at each place at the start, since nothing
-- was written there in between; behind it the rest of the list is such work from the next positions. And every run is
-- such work: where each edit stands in the list is its position at every place. Assumes nothing.
use Prim.Native.Nat.{ℕ, zero, suc, ◌+◌, ◌<◌, ◌≤◌}
use mathlib.Core.Path.{◌≡◌, refl, sym, ◌∙◌, ap, ap₂, fun_ext}
use mathlib.Core.Bool.{Bool}
use mathlib.Core.List.{List, [], ◌∷◌, map}
use native.Mathlib.Omega.{arith}
use lib.Dec.{T, leb}
use lib.ListN.{length}
use borrow.Author.Tests.{leb-true, leb-false}
use Rattle.std.specs.Prelude.{if◌then◌else◌}
use Rattle.base.specs.Runs.{run, answers}
use Rattle.base.proofs.Tests.{by_test, by_value, T_true, T_false}
use Rattle.theory.specs.Reordering.{at}
use Rattle.theory.specs.Serial.{Work, Serial, numbered}
use Rattle.theory.proofs.Local.{LocalStep}
use Rattle.theory.proofs.Positions.{at_both, at_within}

module _ {Edit Place Part Answer : Type 0} (touches : Edit → Place → Bool)
    (step : Edit → (Place → Part) → Place → Part) (answer : Edit → (Place → Part) → Answer) (L : LocalStep touches step answer)
    (versions : Place → ℕ → Part) where
  -- what stands at the positions
  abbrev standing : (Place → ℕ) → Place → Part
  standing p = λ k. versions k (p k)

  abbrev made : Work Edit Place → Place → Part
  made x k = step x.edit (standing x.position) k

  abbrev Done : (Place → ℕ) → (Place → ℕ) → List (Work Edit Place) → Type 0
  Done first last xs = Serial touches versions made first last xs

  -- a version stays where nothing is written
  stays : (k : Place) (a b : ℕ) → a ≤ b → ((t : ℕ) → a ≤ t → t < b → versions k (suc t) ≡ versions k t) → versions k b ≡ versions k a
  stays k a zero le h = let z : a ≡ 0 = omega (arith, le) in ap (versions k) (sym z)
  stays k a (suc b) le h = by_value (leb a b)
      (λ q. h b (leb-true a b q) (omega arith) ∙ stays k a b (leb-true a b q) (λ t p r. h t p (omega (arith, r))))
      (λ q. let z : a ≡ suc b = omega (arith, le, leb-false a b q) in ap (versions k) (sym z))

  module _ (x : Work Edit Place) (xs : List (Work Edit Place)) (first last : Place → ℕ) (S : Done first last (x ∷ xs)) where
    abbrev e : Edit
    e = x.edit

    unfoldable next : Place → ℕ
    next k = if touches e k then suc (x.position k) else first k

    next_touched : (k : Place) → T (touches e k) → next k ≡ suc (x.position k)
    unfolding next
    next_touched k t = rw (T_true (touches e k) t)

    next_other : (k : Place) → ¬ T (touches e k) → next k ≡ first k
    unfolding next
    next_other k t = rw (T_false (touches e k) t)

    -- what the first reads stood there from the start
    reads : (k : Place) → T (touches e k) → standing x.position k ≡ standing first k
    unfolding at
    reads k u = stays k (first k) (x.position k) (S.from_first 0 x refl k u) (λ t p r. S.nothing_else k t p (free t r))
      where
        free : (t : ℕ) → t < x.position k → (i : ℕ) (y : Work Edit Place) → at (x ∷ xs) i ≡ y ∷ [] → T (touches y.edit k) → ¬ (y.position k ≡ t)
        free t r zero y q v z =
            let s : x ≡ y = cc in
            let w : x.position k ≡ t = ap (λ (o : Work Edit Place). o.position k) s ∙ z in
            omega (arith, r, w)
        free t r (suc i) y q v z = omega (arith, r, z, S.rising 0 (suc i) x y refl q (omega arith) k u v)

    leaves : standing next ≡ step e (standing first)
    unfolding at
    leaves = fun_ext λ k. by_test (touches e k)
        (λ u. ap (versions k) (next_touched k u) ∙ S.writes 0 x refl k u ∙ L.same_change e (standing x.position) (standing first) reads k u)
        (λ u. ap (versions k) (next_other k u) ∙ sym (L.others_kept e (standing first) k u))

    told : answer e (standing x.position) ≡ answer e (standing first)
    told = L.same_answer e (standing x.position) (standing first) reads

    first_next : (k : Place) → first k ≤ next k
    unfolding at
    first_next k = by_test (touches e k)
        (λ u. omega (arith, next_touched k u, S.from_first 0 x refl k u))
        (λ u. omega (arith, next_other k u))

    rest_done : Done next last xs
    unfolding at
    rest_done = record {
      rising = λ i j y z p q h. S.rising (suc i) (suc j) y z p q (omega (arith, h));
      from_first = λ i y q k v. by_test (touches e k)
          (λ u. omega (arith, next_touched k u, S.rising 0 (suc i) x y refl q (omega arith) k u v))
          (λ u. omega (arith, next_other k u, S.from_first (suc i) y q k v));
      up_to_last = λ i y q. S.up_to_last (suc i) y q;
      onward = λ k. by_test (touches e k)
          (λ u. omega (arith, next_touched k u, S.up_to_last 0 x refl k u))
          (λ u. omega (arith, next_other k u, S.onward k));
      writes = λ i y q. S.writes (suc i) y q;
      nothing_else = λ k t p free. S.nothing_else k t (omega (arith, p, first_next k)) (others k t p free);
    }
      where
        others : (k : Place) (t : ℕ) → next k ≤ t
            → ((i : ℕ) (y : Work Edit Place) → at xs i ≡ y ∷ [] → T (touches y.edit k) → ¬ (y.position k ≡ t))
            → (i : ℕ) (y : Work Edit Place) → at (x ∷ xs) i ≡ y ∷ [] → T (touches y.edit k) → ¬ (y.position k ≡ t)
        others k t p free (suc i) y q v z = free i y q v z
        others k t p free zero y q v z =
            let s : x ≡ y = cc in
            let w : x.position k ≡ t = ap (λ (o : Work Edit Place). o.position k) s ∙ z in
            let u : T (touches e k) = rw s v in
            omega (arith, w, p, next_touched k u)

  -- THEOREM. The places stand at the end as the list, run from what stood there at the start, leaves them
  pub serial_run : (xs : List (Work Edit Place)) (first last : Place → ℕ) → Done first last xs
      → run step (map (λ x. x.edit) xs) (standing first) ≡ standing last
  unfolding run at
  serial_run [] first last S =
      fun_ext λ k. sym (stays k (first k) (last k) (S.onward k) (λ t p r. S.nothing_else k t p (λ i x q. absurd (none i x q))))
    where
      none : (i : ℕ) (x : Work Edit Place) → ¬ (at {A = Work Edit Place} [] i ≡ x ∷ [])
      none zero x q = let z : ◌≡◌ {A = ℕ} 0 1 = cc in omega arith
      none (suc i) x q = let z : ◌≡◌ {A = ℕ} 0 1 = cc in omega arith
  serial_run (x ∷ xs) first last S =
      ap (run step (map (λ y. y.edit) xs)) (sym (leaves x xs first last S)) ∙ serial_run xs (next x xs first last S) last (rest_done x xs first last S)

  -- THEOREM. Each edit answers as in that run
  pub serial_answers : (xs : List (Work Edit Place)) (first last : Place → ℕ) → Done first last xs
      → answers step answer (map (λ x. x.edit) xs) (standing first) ≡ map (λ x. answer x.edit (standing x.position)) xs
  unfolding answers
  serial_answers [] first last S = refl
  serial_answers (x ∷ xs) first last S =
      ap₂ (λ (a : Answer) (l : List Answer). a ∷ l) (sym (told x xs first last S))
      (ap (answers step answer (map (λ y. y.edit) xs)) (sym (leaves x xs first last S))
      ∙ serial_answers xs (next x xs first last S) last (rest_done x xs first last S))

-- every run

numbered_length : {Edit : Type 0} (Place : Type 0) (i : ℕ) (es : List Edit) → length es ≡ length (numbered {Place = Place} i es)
unfolding numbered
numbered_length Place i [] = refl
numbered_length Place i (e ∷ es) = ap suc (numbered_length Place (suc i) es)

-- what stands in it
numbered_at : {Edit Place : Type 0} (j : ℕ) (es : List Edit) (i : ℕ) (x : Work Edit Place) → at (numbered j es) i ≡ x ∷ []
    → (at es i ≡ x.edit ∷ []) × ((k : Place) → x.position k ≡ j + i)
unfolding numbered at
numbered_at j [] zero x q = let z : ◌≡◌ {A = ℕ} 0 1 = cc in absurd (omega arith)
numbered_at j [] (suc i) x q = let z : ◌≡◌ {A = ℕ} 0 1 = cc in absurd (omega arith)
numbered_at {Edit} {Place} j (e ∷ es) zero x q =
    let s : record { edit = e; position = λ k. j } ≡ x = cc in
    (ap (λ (y : Work Edit Place). y.edit ∷ []) s, λ k. sym (ap (λ (y : Work Edit Place). y.position k) s) ∙ omega arith)
numbered_at j (e ∷ es) (suc i) x q = let (p, r) = numbered_at (suc j) es i x q in (p, λ k. r k ∙ omega arith)

module _ {Edit Place Part Answer : Type 0} (touches : Edit → Place → Bool)
    (step : Edit → (Place → Part) → Place → Part) (answer : Edit → (Place → Part) → Answer) (L : LocalStep touches step answer)
    (es : List Edit) (st : Place → Part) where
  -- the state after the first t edits
  unfoldable pub after_first : ℕ → Place → Part
  after_first zero = st
  after_first (suc t) = run step (at es t) (after_first t)

  abbrev states : Place → ℕ → Part
  states k t = after_first t k

  -- THEOREM. Every run is work at positions that rise
  pub run_serial : Serial touches states (λ x k. step x.edit (λ j. states j (x.position j)) k) (λ k. 0) (λ k. length es) (numbered 0 es)
  unfolding after_first run
  run_serial = record {
    rising = λ i j x y p q h k t u. omega (arith, h, (numbered_at 0 es i x p).1 k, (numbered_at 0 es j y q).1 k);
    from_first = λ i x q k t. omega arith;
    up_to_last = λ i x q k t. omega (arith, (numbered_at 0 es i x q).1 k, at_within es i x.edit (numbered_at 0 es i x q).0);
    onward = λ k. omega arith;
    writes = writes;
    nothing_else = λ k t p free. at_both es (numbered 0 es) (numbered_length Place 0 es) t
        (λ none r. ap (λ (l : List Edit). run step l (after_first t) k) none)
        (λ e x one r. stays k t e x one r free);
  }
    where
      writes : (i : ℕ) (x : Work Edit Place) → at (numbered 0 es) i ≡ x ∷ [] → (k : Place) → T (touches x.edit k)
          → run step (at es (x.position k)) (after_first (x.position k)) k ≡ step x.edit (λ j. after_first (x.position j) j) k
      writes i x q k t =
          let (one, here) = numbered_at 0 es i x q in
          let now : (j : Place) → x.position j ≡ i = λ j. here j ∙ omega arith in
          ap (λ (a : ℕ). run step (at es a) (after_first a) k) (now k) ∙ ap (λ (l : List Edit). run step l (after_first i) k) one
          ∙ ap (λ (m : Place → Part). step x.edit m k) (fun_ext (λ j. ap (λ (a : ℕ). after_first a j) (sym (now j))))

      stays : (k : Place) (t : ℕ) (e : Edit) (x : Work Edit Place) → at es t ≡ e ∷ [] → at (numbered 0 es) t ≡ x ∷ []
          → ((i : ℕ) (y : Work Edit Place) → at (numbered 0 es) i ≡ y ∷ [] → T (touches y.edit k) → ¬ (y.position k ≡ t))
          → run step (at es t) (after_first t) k ≡ after_first t k
      stays k t e x one r free =
          let (here, now) = numbered_at 0 es t x r in
          ap (λ (l : List Edit). run step l (after_first t) k) here
          ∙ L.others_kept x.edit (after_first t) k (λ u. free t x r u (now k ∙ omega arith))
