-- Histories, the edits of a list that name a group.
-- 1. A reordering keeps every group's history: a log of the edits at each group is a state on which edits are local, so
-- reordered edits leave the same logs (Exchange).
-- 2. Lists of edits that give every place the same history end alike. The first edit of the one stands in the other
-- behind edits that touch nothing of it: where any does, it is first in the history of a common place, so it is that
-- edit. So it may as well be done first, and without it the rests have the same histories.
-- Assumes nothing.
use Prim.Native.Nat.{ℕ}
use mathlib.Core.Path.{◌≡◌, refl, sym, ◌∙◌, ap}
use mathlib.Core.Bool.{Bool, true, false, not, ◌&&◌}
use mathlib.Core.List.{List, [], ◌∷◌, ◌++◌, append-nil, append_assoc}
use native.Mathlib.Omega.{arith}
use lib.Dec.{T}
use Rattle.std.specs.Prelude.{if◌then◌else◌}
use Rattle.base.specs.Lists.{any, every, keep}
use Rattle.base.specs.Runs.{run}
use Rattle.base.proofs.Tests.{by_value, T_true, true_T, T_false, if_no, and_l, and_r, any_one}
use Rattle.theory.specs.Reordering.{along, history, Reordering}
use Rattle.theory.proofs.Local.{LocalStep, Apart, turned, unseen, commute, idle}
use Rattle.theory.proofs.Exchange.{same_state}

-- a reordering's histories

module _ {Edit Group : Type 0} (names : Edit → Group → Bool) where
  -- each group's log, one edit longer
  abbrev logged : Edit → (Group → List Edit) → Group → List Edit
  logged e st = λ g. if names e g then st g ++ e ∷ [] else st g

  -- what an edit answers is of no account here
  logged_local : LocalStep names logged (λ e st. e)
  logged_local = record {
    same_answer = λ e st st' h. refl;
    same_change = λ e st st' h g t. ap (λ (l : List Edit). if names e g then l ++ e ∷ [] else l) (h g t);
    others_kept = λ e st g t. if_no (names e g) (st g ++ e ∷ []) (st g) t;
  }

  logs : (es : List Edit) (st : Group → List Edit) (g : Group) → run logged es st g ≡ st g ++ history names g es
  unfolding run keep
  logs [] st g = sym (append-nil (st g))
  logs (e ∷ es) st g = logs es (logged e st) g ∙ by_value (names e g)
      (λ q. rw q (append_assoc (st g) (e ∷ []) (history names g es)))
      (λ q. rw q)

  -- THEOREM. A reordering keeps every history
  pub reordered : (es : List Edit) (ps : List ℕ) → Reordering names es ps → (g : Group) → history names g (along es ps) ≡ history names g es
  reordered es ps R g =
      let ends : run logged (along es ps) (λ h. []) ≡ run logged es (λ h. []) =
      same_state names logged (λ e st. e) logged_local names (λ e f h k t u. h (k, t, u)) es ps (λ h. []) R in
      sym (logs (along es ps) (λ h. []) g) ∙ ap (λ (st : Group → List Edit). st g) ends ∙ logs es (λ h. []) g

-- lists with the same histories

-- none passes, so each fails
none_any : {A : Type 0} (f : A → Bool) (xs : List A) → any f xs ≡ false → T (every (λ x. not (f x)) xs)
unfolding any every
none_any f [] q = tt
none_any f (x ∷ xs) q = by_value (f x)
    (λ e. absurd (true_T false (sym (rw e at q))))
    (λ e. rw e (none_any f xs (rw e at q)))

-- every place that an edit touches is one of the list `places`: what holds of each of these holds of it
module _ {Edit Place Part Answer : Type 0} (touches : Edit → Place → Bool)
    (step : Edit → (Place → Part) → Place → Part) (answer : Edit → (Place → Part) → Answer) (L : LocalStep touches step answer)
    (places : List Place) (inside : (e : Edit) (k : Place) → T (touches e k) → (f : Place → Bool) → T (every f places) → T (f k)) where
  abbrev State : Type 0
  State = Place → Part

  -- what the edits of a place's history answer
  unfoldable pub said : Place → List Edit → State → List Answer
  said k [] st = []
  said k (e ∷ es) st = if touches e k then answer e st ∷ said k es (step e st) else said k es (step e st)

  -- a test that no place passes fails at what is touched
  untouched : (e : Edit) (f : Place → Bool) → any (λ k. touches e k && f k) places ≡ false → (k : Place) → T (touches e k) → ¬ T (f k)
  untouched e f q k t u =
      let x : T (not (touches e k && f k)) = inside e k t (λ c. not (touches e c && f c)) (none_any (λ c. touches e c && f c) places q) in
      rw (T_true (touches e k) t, T_true (f k) u) at x

  -- e stands in the list behind edits that touch nothing of it; the list without it
  data Out (e : Edit) : List Edit → List Edit → Type 0 where
    here : {es : List Edit} → Out e (e ∷ es) es
    past : {es rest : List Edit} (f : Edit) → Apart touches e f → Out e es rest → Out e (f ∷ es) (f ∷ rest)

  out_run : (e : Edit) {es rest : List Edit} → Out e es rest → (st : State) → run step es st ≡ run step rest (step e st)
  unfolding run
  out_run e here st = refl
  out_run e (past {es} {rest} f h o) st = out_run e o (step f st) ∙ ap (run step rest) (commute touches step answer L e f st h)

  out_history : (e : Edit) {es rest : List Edit} → Out e es rest → (k : Place) → history touches k es ≡ history touches k (e ∷ rest)
  unfolding keep
  out_history e here k = refl
  out_history e (past {es} {rest} f h o) k = by_value (touches e k)
      (λ q.
      let r : touches f k ≡ false = T_false (touches f k) (h k (true_T (touches e k) q)) in
      let ih : history touches k es ≡ e ∷ history touches k rest = out_history e o k ∙ rw q in
      rw (q, r) ih)
      (λ q.
      let ih : history touches k es ≡ history touches k rest = out_history e o k ∙ rw q in
      rw (q, ih))

  out_said : (e : Edit) {es rest : List Edit} → Out e es rest → (k : Place) (st : State) → said k es st ≡ said k (e ∷ rest) st
  unfolding said
  out_said e here k st = refl
  out_said e (past {es} {rest} f h o) k st =
      let ih : said k es (step f st) ≡ (if touches e k then answer e (step f st) ∷ said k rest (step e (step f st)) else said k rest (step e (step f st))) =
      out_said e o k (step f st) in
      let swapped = commute touches step answer L e f st h in
      let e-same = L.same_answer e (step f st) st (unseen touches step answer L e f st h) in
      let f-same = L.same_answer f (step e st) st (unseen touches step answer L f e st (turned touches e f h)) in
      by_value (touches e k)
      (λ q.
      let r : touches f k ≡ false = T_false (touches f k) (h k (true_T (touches e k) q)) in
      rw (q, r) ((rw q at ih) ∙ rw (swapped, e-same)))
      (λ q.
      let ih' : said k es (step f st) ≡ said k rest (step f (step e st)) = (rw q at ih) ∙ ap (said k rest) swapped in
      rw (q, ih', f-same))

  first_is : (e f : Edit) (es l : List Edit) (k : Place) → T (touches f k) → history touches k (f ∷ es) ≡ e ∷ l → f ≡ e
  unfolding keep
  first_is e f es l k t r = let s : f ∷ history touches k es ≡ e ∷ l = (rw (T_true (touches f k) t) at r) in cc s

  -- it is found where it is first in every history that it stands in
  find : (e : Edit) (k : Place) → T (touches e k) → (es : List Edit)
      → ((c : Place) → T (touches e c) → (l : List Edit) × (history touches c es ≡ e ∷ l)) → (rest : List Edit) × Out e es rest
  unfolding keep
  find e k t [] h = let z : ◌≡◌ {A = ℕ} 0 1 = cc (h k t).1 in absurd (omega (arith, z))
  find e k t (f ∷ es) h = by_value (any (λ c. touches e c && touches f c) places) met (λ q.
      let far : Apart touches e f = untouched e (touches f) q in
      let (rest, o) = find e k t es (λ c u. let (l, r) = h c u in (l, rw (T_false (touches f c) (far c u)) at r)) in
      (f ∷ rest, past f far o))
    where
      met : any (λ c. touches e c && touches f c) places ≡ true → (rest : List Edit) × Out e (f ∷ es) rest
      met q =
          let (c, u) = any_one (λ x. touches e x && touches f x) places (true_T (any (λ x. touches e x && touches f x) places) q) in
          let (l, r) = h c (and_l (touches e c) (touches f c) u) in
          let same : f ≡ e = first_is e f es l c (and_r (touches e c) (touches f c) u) r in
          rw same (es, here)

  -- an edit that stands in no history changes nothing
  silent : (es : List Edit) → ((k : Place) → [] ≡ history touches k es) → (st : State) → (st ≡ run step es st) × ((k : Place) → [] ≡ said k es st)
  unfolding keep run said
  silent [] h st = (refl, λ k. refl)
  silent (f ∷ es) h st =
      let off : (k : Place) → touches f k ≡ false = λ k. by_value (touches f k)
      (λ q. let e : [] ≡ f ∷ history touches k es = (rw q at (h k)) in let z : ◌≡◌ {A = ℕ} 0 1 = cc e in absurd (omega (arith, z)))
      (λ q. q) in
      let stays : step f st ≡ st = idle touches step answer L f st (λ k t. true_T false (sym (off k) ∙ T_true (touches f k) t)) in
      let (later, none) = silent es (λ k. (rw (off k) at (h k))) st in
      (rw stays later, λ k. rw (off k, stays) (none k))

  cons_tail : (e : Edit) (xs ys : List Edit) → e ∷ xs ≡ e ∷ ys → xs ≡ ys
  cons_tail e xs ys q = cc

  -- THEOREM. Lists of edits that give every place the same history end alike, and every place's edits get the same
  -- answers
  pub same_history : (es es' : List Edit) → ((k : Place) → history touches k es ≡ history touches k es') → (st : State)
      → (run step es st ≡ run step es' st) × ((k : Place) → said k es st ≡ said k es' st)
  unfolding keep run said
  same_history [] es' h st = silent es' h st
  same_history (e ∷ es) es' h st = by_value (any (λ k. touches e k && true) places)
      (λ q.
      let (k, u) = any_one (λ c. touches e c && true) places (true_T (any (λ c. touches e c && true) places) q) in
      let t : T (touches e k) = and_l (touches e k) true u in
      let (rest, o) = find e k t es' (λ c u. (history touches c es, sym (h c) ∙ rw (T_true (touches e c) u))) in
      let less : (c : Place) → history touches c es ≡ history touches c rest = λ c.
      let both : history touches c (e ∷ es) ≡ history touches c (e ∷ rest) = h c ∙ out_history e o c in
      by_value (touches e c) (λ r. cons_tail e (history touches c es) (history touches c rest) (rw r at both)) (λ r. rw r at both) in
      let (later, alike) = same_history es rest less (step e st) in
      (later ∙ sym (out_run e o st), λ c. ap (λ (l : List Answer). if touches e c then answer e st ∷ l else l) (alike c) ∙ sym (out_said e o c st)))
      (λ q.
      let none : (k : Place) → ¬ T (touches e k) = λ k t. untouched e (λ c. true) q k t tt in
      let stays : step e st ≡ st = idle touches step answer L e st none in
      let (later, alike) = same_history es es' (λ c. sym (rw (T_false (touches e c) (none c))) ∙ h c) st in
      (rw stays later, λ c. rw (T_false (touches e c) (none c), stays) (alike c)))
