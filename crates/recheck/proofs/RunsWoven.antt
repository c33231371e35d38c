-- Findings of one station woven at once: where all is redone at the station, they are skipped; where nothing is, and
-- what is redone comes later, they are copied. By induction over the findings, each a turn of `WeaveLaws`. Assumes
-- nothing.
use Prim.Native.Nat.{ℕ, zero, suc, ◌+◌, ◌*◌, ◌-◌, ◌/◌, ◌<◌, ◌≤◌}
use mathlib.Core.Path.{◌≡◌, refl, sym, ◌∙◌, ap}
use mathlib.Core.Bool.{Bool, true, false, ◌&&◌, ◌||◌}
use mathlib.Core.List.{List}
use mathlib.Core.Logic.{◌⊎◌, inl, inr}
use native.Mathlib.Omega.{arith}
use lib.Dec.{T, eqb, leb, ltb}
use lib.ListN.{length, drop, get_or, length-drop}
use lib.Seq.{get_or-drop, length-take-le}
use borrow.Author.Tests.{eqb-true, ltb-true, lt-leb, le-ltb, ne_eqb}
use Rattle.base.specs.Lists.{below}
use Rattle.base.proofs.Tests.{T_true, true_T, and_l, and_r}
use Rattle.timetable.specs.Outputs.{put}
use Rattle.timetable.proofs.BuffersFilled.{put_append}
use Rattle.scope.specs.Redone.{level}
use Rattle.recheck.specs.Types.{Marks}
use Rattle.recheck.specs.between.Kept.{four_at, part, before_at, comes_first, run_first, Alike, Run}
use Rattle.recheck.proofs.RunLaws.{alike_first, alike_rest, findings_in, all_go, none_goes}
use Rattle.recheck.proofs.WeaveLaws.{Weaves, put_behind, part_four, room-left, weaves_skip, weaves-put}

-- no redone finding is left, or the next is of a greater station

abbrev Later : ℕ → ℕ → List ℕ → ℕ → Type 0
Later from end out station = (end < from + 4) ⊎ (station < get_or out from 0)

-- what the code tests says so
run_so : (from end : ℕ) (out : List ℕ) (station k : ℕ) → run_first from end out station k ≡ true → (k ≡ 0) × Later from end out station
unfolding run_first
run_so from end out station k e =
    let both = true_T (run_first from end out station k) e in
    let over = ltb end (from + 4) in
    let greater = ltb station (get_or out from 0) in (
      eqb-true k 0 (T_true (eqb k 0) (and_l (eqb k 0) (over || greater) both)),
      either over greater (ltb-true end (from + 4)) (ltb-true station (get_or out from 0)) (and_r (eqb k 0) (over || greater) both),
    )
  where
    either : {P Q : Type 0} (a b : Bool) → (a ≡ true → P) → (b ≡ true → Q) → T (a || b) → P ⊎ Q
    either true b f g t = inl (f refl)
    either false b f g t = inr (g (T_true b t))

-- then none comes before a finding of the station
not_first : (from end : ℕ) (out : List ℕ) (i : ℕ) (list : List ℕ) (station : ℕ) → get_or list i 0 ≡ station → Later from end out station
    → comes_first from end out i list ≡ false
unfolding comes_first before_at four_at below
not_first from end out i list station e (inl h) = rw (lt-leb (from + 4) end h)
not_first from end out i list station e (inr h) =
    rw (le-ltb (get_or out from 0) (get_or list i 0) (omega (arith, h, e)), ne_eqb (get_or out from 0) (get_or list i 0) (λ same. omega (arith, h, e, same)))
    (and_none (leb (from + 4) end))
  where
    and_none : (b : Bool) → (b && false) ≡ false
    and_none true = refl
    and_none false = refl

-- and it stays so when numbers are written before them
later_still : (from end to : ℕ) (xs out : List ℕ) (station : ℕ) → to + length xs ≤ from → Later from end out station → Later from end (put to xs out) station
later_still from end to xs out station r (inl h) = inl h
later_still from end to xs out station r (inr h) = inr (rw same h)
  where
    here : (l : List ℕ) → get_or l from 0 ≡ get_or (drop from l) 0 0
    here l = let e : from ≡ from + 0 = omega arith in ap (λ (k : ℕ). get_or l k 0) e ∙ sym (get_or-drop from l 0 0)

    same : get_or (put to xs out) from 0 ≡ get_or out from 0
    same = here (put to xs out) ∙ ap (λ (l : List ℕ). get_or l 0 0) (put_behind to xs out from r) ∙ sym (here out)

-- four numbers and those behind them, written one after the other
written : (i stop to : ℕ) (list out : List ℕ) → i + 4 ≤ stop → stop ≤ length list
    → put (to + 4) (part (i + 4) stop list) (put to (four_at i list) out) ≡ put to (part i stop list) out
unfolding four_at
written i stop to list out h k =
    sym (ap (λ (l : List ℕ). put to l out) (part_four i stop list h k) ∙ put_append to (four_at i list) (part (i + 4) stop list) out)

-- a run by the number of its findings

module _ {marks : Marks} {list goal rest : List ℕ} {end from : ℕ} (station stop : ℕ) (fits : stop ≤ length list) where
  skips : level marks station ≡ 2 → (n i to : ℕ) (out : List ℕ) → i + 4 * n ≡ stop → Alike station list i stop
      → Weaves marks list goal rest end i to from out → Weaves marks list goal rest end stop to from out
  skips e zero i to out l a w = let met : i ≡ stop = omega (arith, l) in rw met at w
  skips e (suc n) i to out l a w =
      let goes = all_go marks station (get_or list i 0) (get_or list (i + 1) 0) (alike_first station list i stop a (omega (arith, l))) e in
      skips e n (i + 4) to out (omega (arith, l)) (alike_rest station list i stop a) (weaves_skip w (omega (arith, l, fits)) goes)

  copies : level marks station ≡ 0 → (n i to : ℕ) (out : List ℕ) → i + 4 * n ≡ stop → Alike station list i stop → Later from end out station
      → Weaves marks list goal rest end i to from out
      → (to + (stop - i) ≤ from) × Weaves marks list goal rest end stop (to + (stop - i)) from (put to (part i stop list) out)
  unfolding put four_at
  copies e zero i to out l a f w =
      let met : i ≡ stop = omega (arith, l) in
      let none : stop - i ≡ 0 = omega (arith, l) in
      let same : to + 0 ≡ to = omega arith in
      let here : Weaves marks list goal rest end stop to from out = rw met at w in
      (omega (arith, none, w.room), rw (none, same) here)
  copies e (suc n) i to out l a f w =
      let more : i + 4 ≤ length list = omega (arith, l, fits) in
      let first = alike_first station list i stop a (omega (arith, l)) in
      let stays = none_goes marks station (get_or list i 0) (get_or list (i + 1) 0) first e in
      let one = weaves-put w more stays (not_first from end out i list station first f) in
      let still = later_still from end to (four_at i list) out station (room-left w more stays) f in
      let all = copies e n (i + 4) (to + 4) (put to (four_at i list) out) (omega (arith, l)) (alike_rest station list i stop a) still one in
      let far : to + 4 + (stop - (i + 4)) ≡ to + (stop - i) = omega (arith, l) in
      rw (far, written i stop to list out (omega (arith, l)) fits) at all

pub run_size : (list : List ℕ) (i stop : ℕ) → Run list i stop → length (part i stop list) ≡ stop - i
run_size list i stop run = length-take-le (stop - i) (drop i list) (omega (arith, length-drop i list, run.1))

-- a run at once

module _ {marks : Marks} {list goal rest : List ℕ} {end i to from : ℕ} {out : List ℕ} (w : Weaves marks list goal rest end i to from out)
    (stop : ℕ) (run : Run list i stop) where
  many : i + 4 * ((stop - i) / 4) ≡ stop
  many = findings_in i stop (omega (arith, run.0)) run.2

  pub weaves_skip_run : level marks (get_or list i 0) ≡ 2 → Weaves marks list goal rest end stop to from out
  weaves_skip_run e = skips (get_or list i 0) stop run.1 e ((stop - i) / 4) i to out many run.3 w

  -- and there is room for it
  pub weaves_copy_run : (k : ℕ) → k ≡ level marks (get_or list i 0) → run_first from end out (get_or list i 0) k ≡ true
      → (to + (stop - i) ≤ from) × Weaves marks list goal rest end stop (to + (stop - i)) from (put to (part i stop list) out)
  weaves_copy_run k e c =
      let so = run_so from end out (get_or list i 0) k c in
      copies (get_or list i 0) stop run.1 (sym e ∙ so.0) ((stop - i) / 4) i to out many run.3 so.1 w
