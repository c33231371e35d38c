-- Numbers put into a buffer: what is put in two parts is put at once, so that a loop may be left to say what is still
-- to be put. On a buffer that is long enough the numbers stand at its front and the rest is kept. Assumes nothing.
use Prim.Native.Nat.{ℕ, ◌+◌, ◌≤◌}
use mathlib.Core.Path.{◌≡◌, refl, sym, ap, ap₂, ◌∙◌}
use mathlib.Core.Bool.{Bool, true, false}
use mathlib.Core.List.{List, [], ◌∷◌, ◌++◌}
use native.Mathlib.Omega.{arith}
use lib.ListN.{length, set, length-append}
use Rattle.timetable.specs.Outputs.{Puts, put}
use Rattle.timetable.proofs.BuffersFilled.{put_append}
use Rattle.builder.specs.Types.{Station}
use Rattle.builder.specs.between.Builder.{told}

-- the four numbers of a finding

pub told_not : (at : ℕ) (found : Bool) (s : Station) (rule a b : ℕ) (out : List ℕ) → found ≡ false → Puts at (told found s rule a b) out at out 4
unfolding told put
told_not at found s rule a b out e = rw e (omega arith, refl, omega arith)

module _ (at : ℕ) (s : Station) (rule a b : ℕ) (w x y z o : List ℕ)
    (p : x ≡ set w at s.0) (q : y ≡ set x (at + 1) rule) (r : z ≡ set y (at + 2) a) (t : o ≡ set z (at + 3) b) where
  four : o ≡ put at (s.0 ∷ rule ∷ a ∷ b ∷ []) w
  unfolding put
  four =
      let two : at + 2 ≡ at + 1 + 1 = omega arith in
      let three : at + 3 ≡ at + 1 + 1 + 1 = omega arith in
      t ∙ ap₂ (λ (k : ℕ) (l : List ℕ). set l k b) three (r ∙ ap₂ (λ (k : ℕ) (l : List ℕ). set l k a) two (q ∙ ap (λ (l : List ℕ). set l (at + 1) rule) p))

  pub told_so : (found : Bool) → found ≡ true → Puts at (told found s rule a b) w (at + 4) o 4
  unfolding told
  told_so found e = rw e (omega arith, four, omega arith)

-- a pass that puts fewer, and one that puts nothing

pub puts_more : (at r k j : ℕ) (xs before after : List ℕ) → k ≤ j → Puts at xs before r after k → Puts at xs before r after j
puts_more at r k j xs before after h p = (p.0, p.1, omega arith)

pub puts_none : (at k : ℕ) (out : List ℕ) → Puts at [] out at out k
unfolding put
puts_none at k out = (omega arith, refl, omega arith)

-- a loop that puts all of xs from `at` on, come to a place where the rest is still to be put
module _ (at : ℕ) (all before : List ℕ) where
  abbrev pub Left : ℕ → List ℕ → List ℕ → Type 0
  Left to rest out = (to + length rest ≡ at + length all) × (put to rest out ≡ put at all before)

  pub left_start : Left at all before
  left_start = (refl, refl)

  pub left_on : (to r k : ℕ) (rest xs more out later : List ℕ) → rest ≡ xs ++ more → Left to rest out → Puts to xs out r later k → Left r more later
  left_on to r k rest xs more out later e l p = (
    omega (arith, ap length e, length-append xs more, l.0),
    ap₂ (λ (i : ℕ) (b : List ℕ). put i more b) p.0 p.1 ∙ sym (put_append to xs more out) ∙ ap (λ (zs : List ℕ). put to zs out) (sym e) ∙ l.1,
  )

  pub left_end : (to k : ℕ) (rest out : List ℕ) → rest ≡ [] → Left to rest out → to ≤ at + k → Puts at all before to out k
  unfolding put
  left_end to k rest out e l h = (omega (arith, ap length e, l.0), ap (λ (zs : List ℕ). put to zs out) (sym e) ∙ l.1, h)
