-- Texts put one behind the other: the laws of each part of a pass, one part with nothing behind it, and the elements of
-- a list one by one. Assumes nothing.
use Prim.Native.Nat.{ℕ, ◌+◌, ◌*◌, ◌≤◌, ◌<◌}
use mathlib.Core.Path.{◌≡◌, refl, sym, ◌∙◌, ap}
use mathlib.Core.List.{List, [], ◌∷◌, ◌++◌, append-nil, flat_map}
use native.Mathlib.Omega.{arith}
use lib.ListN.{length, get_or, take}
use lib.Seq.{take_all}
use Rattle.std.proofs.lemmas.List.{take_more}
use Rattle.std.proofs.lemmas.List.Concat.{flat_map-append}
use Rattle.timetable.specs.Outputs.{Puts, put}
pub use Rattle.timetable.proofs.BuffersFilled.{puts_two, puts_as}

pub puts_last : (at r : ℕ) (xs b c : List ℕ) (k : ℕ) → Puts at xs b r c k → Puts at (xs ++ []) b r c k
puts_last at r xs b c k x = rw (append-nil xs) x

-- the elements of a list, each as its text of at most j bytes, from a place on
module _ {A : Type 0} (f : A → List ℕ) (ys : List A) (j at : ℕ) (b : List ℕ) where
  -- the first i of them are put
  abbrev pub PutSome : ℕ → ℕ → List ℕ → Type 0
  PutSome i next c = Puts at (flat_map f (take i ys)) b next c (j * i)

  pub none_put : PutSome 0 at b
  unfolding flat_map put
  none_put = (omega arith, refl, omega arith)

  one_more : (i : ℕ) (y : A) → i < length ys → flat_map f (take i ys) ++ f (get_or ys i y) ≡ flat_map f (take (i + 1) ys)
  unfolding flat_map
  one_more i y h =
      ap (λ (l : List ℕ). flat_map f (take i ys) ++ l) (sym (append-nil (f (get_or ys i y)))) ∙ sym (ap (flat_map f) (take_more ys i y h) ∙ flat_map-append f (take i ys) (get_or ys i y ∷ []))

  pub one_put : (i next later : ℕ) (c d : List ℕ) (y : A) → i < length ys → PutSome i next c → Puts next (f (get_or ys i y)) c later d j → PutSome (i + 1) later d
  one_put i next later c d y h before here =
      let v = puts_two at next later (flat_map f (take i ys)) (f (get_or ys i y)) b c d (j * i) j before here in
      let w = puts_as at later _ _ b d (j * i + j) (one_more i y h) v in
      (w.0, w.1, omega (arith, w.2))

  pub all_put : (i next : ℕ) (c : List ℕ) → length ys ≤ i → PutSome i next c → Puts at (flat_map f ys) b next c (j * i)
  all_put i next c h all = rw (take_all i ys h) at all
