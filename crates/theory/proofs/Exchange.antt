-- Edits that read and change only the places that they touch may be reordered, as long as every two that name a common
-- group keep their order, where two edits that name no common group touch no common place: each edit answers the same
-- (`same_answers`), and the last state is the same (`same_state`). The proof goes by the first edit. Whatever the new
-- order has before it does not meet it, so that it may as well be done first (`run_first`, `answers_first`); without
-- it, and with every position less by one, the new order is one of the edits that are left (`rest_reordering`). Assumes
-- nothing.
use mathlib.Core.Path.{◌≡◌, refl, sym, ap, ◌∙◌}
use mathlib.Core.Bool.{Bool}
use mathlib.Core.List.{List, [], ◌∷◌, flat_map}
use Prim.Native.Nat.{ℕ, zero, suc, ◌<◌}
use native.Mathlib.Omega.{arith}
use lib.ListN.{length}
use Rattle.base.specs.Lists.{count}
use Rattle.base.specs.Runs.{run, answers}
use Rattle.theory.specs.Reordering.{times, place, at, along, Meet, Reordering}
use Rattle.theory.proofs.Local.{LocalStep, Apart, turned, unseen, commute}
use Rattle.theory.proofs.Positions.{rest, times_rest, times_zero_suc, place_rest, place_head, place_zero_suc, place_cons}
use Rattle.theory.proofs.Positions.{at_both, along_nil, along_rest, along_cons, along_zero, along_suc}

-- the first edit of a reordering

module _ {Edit Group : Type 0} (names : Edit → Group → Bool) where
  -- the edits that ps has before e, which is the first, do not meet it
  unfoldable Free : Edit → List Edit → List ℕ → Type 0
  Free e es ps = (j : ℕ) (f : Edit) → at es j ≡ f ∷ [] → place (suc j) ps < place 0 ps → ¬ Meet names e f

  module _ (e : Edit) (es : List Edit) where
    free_head : (p : ℕ) (ps : List ℕ) (f : Edit) → at es p ≡ f ∷ [] → Free e es (suc p ∷ ps) → ¬ Meet names e f
    unfolding Free
    free_head p ps f q free = free p f q (omega (arith, place_head (suc p) ps, place_zero_suc p ps))

    free_tail : (p : ℕ) (ps : List ℕ) → Free e es (suc p ∷ ps) → Free e es ps
    unfolding Free
    free_tail p ps free j f q h = free j f q (omega (arith, place_cons (suc j) (suc p) ps, place_zero_suc p ps))

    reordering_free : (ps : List ℕ) → Reordering names (e ∷ es) ps → Free e es ps
    unfolding Free at
    reordering_free ps R j f q h m = omega (arith, R.in_order 0 (suc j) e f refl q (omega arith) m)

    -- a reordering of e ∷ es, with e left out, is a reordering of es
    rest_reordering : (ps : List ℕ) → Reordering names (e ∷ es) ps → Reordering names es (rest ps)
    unfolding at
    rest_reordering ps R =
        record {
          once = λ i h. omega (arith, times_rest i ps, R.once (suc i) (omega arith));
          nothing_else = λ i h. omega (arith, times_rest i ps, R.nothing_else (suc i) (omega arith));
          in_order = λ i j x y p q h m. place_rest i j ps (R.in_order (suc i) (suc j) x y p q (omega arith) m);
        }

module _ {Edit Place Part Answer Group : Type 0} (touches : Edit → Place → Bool)
    (step : Edit → (Place → Part) → Place → Part) (answer : Edit → (Place → Part) → Answer) (L : LocalStep touches step answer)
    (names : Edit → Group → Bool) (apart : (e f : Edit) → ¬ Meet names e f → Apart touches e f) where
  module _ (e : Edit) (es : List Edit) where
    run_first : (ps : List ℕ) (st : Place → Part) → times 0 ps ≡ 1 → Free names e es ps
        → run step (along (e ∷ es) ps) st ≡ run step (along es (rest ps)) (step e st)
    unfolding run count rest
    run_first [] st h free = absurd (omega arith)
    run_first (zero ∷ ps) st h free = rw (along_zero e es ps, along_rest e es ps (omega arith))
    run_first (suc p ∷ ps) st h free =
        let later : (st' : Place → Part) → run step (along (e ∷ es) ps) st' ≡ run step (along es (rest ps)) (step e st') =
        λ st'. run_first ps st' (sym (times_zero_suc p ps) ∙ h) (free_tail names e es p ps free) in
        at_both es es refl p
        (λ q q'. rw (along_suc e es p ps, along_cons es p (rest ps), q) (later st))
        (λ f f' q q'. rw (along_suc e es p ps, along_cons es p (rest ps), q)
        (later (step f st) ∙ ap (run step (along es (rest ps))) (commute touches step answer L e f st (apart e f (free_head names e es p ps f q free)))))

    -- B is what the other edits answer once the first is done
    answers_first : (B : List Answer) → length es ≡ length B → (ps : List ℕ) (st : Place → Part) → times 0 ps ≡ 1 → Free names e es ps
        → answers step answer (along es (rest ps)) (step e st) ≡ along B (rest ps)
        → answers step answer (along (e ∷ es) ps) st ≡ along (answer e st ∷ B) ps
    unfolding answers count rest
    answers_first B l [] st h free q = absurd (omega arith)
    answers_first B l (zero ∷ ps) st h free q =
        rw (along_zero e es ps, along_zero (answer e st) B ps, along_rest e es ps (omega arith), along_rest (answer e st) B ps (omega arith), q)
    answers_first B l (suc p ∷ ps) st h free q =
        let later : (st' : Place → Part) → answers step answer (along es (rest ps)) (step e st') ≡ along B (rest ps)
        → answers step answer (along (e ∷ es) ps) st' ≡ along (answer e st' ∷ B) ps =
        λ st'. answers_first B l ps st' (sym (times_zero_suc p ps) ∙ h) (free_tail names e es p ps free) in
        at_both es B l p
        (λ r r'. rw (along_suc e es p ps, along_suc (answer e st) B p ps, r, r') (later st (rw (along_cons es p (rest ps), along_cons B p (rest ps), r, r') at q)))
        (λ f b r r'.
        let told : answer f (step e st) ∷ answers step answer (along es (rest ps)) (step f (step e st)) ≡ b ∷ along B (rest ps) =
        rw (along_cons es p (rest ps), along_cons B p (rest ps), r, r') at q in
        let off = apart e f (free_head names e es p ps f r free) in
        let swapped = commute touches step answer L e f st off in
        let e-same = L.same_answer e (step f st) st (unseen touches step answer L e f st off) in
        let f-same = L.same_answer f (step e st) st (unseen touches step answer L f e st (turned touches e f off)) in
        let after-f = later (step f st) (cc) in
        rw (along_suc e es p ps, along_suc (answer e st) B p ps, r, r') (cc))

  answers_length : (es : List Edit) (st : Place → Part) → length es ≡ length (answers step answer es st)
  unfolding answers
  answers_length [] st = refl
  answers_length (e ∷ es) st = ap suc (answers_length es (step e st))

  -- THEOREM. The answers of the reordered edits are those of the first order, read along the new one
  pub same_answers : (es : List Edit) (ps : List ℕ) (st : Place → Part) → Reordering names es ps
      → answers step answer (along es ps) st ≡ along (answers step answer es st) ps
  unfolding answers along flat_map
  same_answers [] ps st R = rw (along_nil {A = Edit} ps, along_nil {A = Answer} ps)
  same_answers (e ∷ es) ps st R =
      answers_first e es (answers step answer es (step e st)) (answers_length es (step e st)) ps st (omega (arith, R.once 0 (omega arith))) (reordering_free names e es ps R)
      (same_answers es (rest ps) (step e st) (rest_reordering names e es ps R))

  -- THEOREM. The reordered edits end in the same state
  pub same_state : (es : List Edit) (ps : List ℕ) (st : Place → Part) → Reordering names es ps → run step (along es ps) st ≡ run step es st
  unfolding run along flat_map
  same_state [] ps st R = rw (along_nil {A = Edit} ps)
  same_state (e ∷ es) ps st R =
      run_first e es ps st (omega (arith, R.once 0 (omega arith))) (reordering_free names e es ps R)
      ∙ same_state es (rest ps) (step e st) (rest_reordering names e es ps R)
