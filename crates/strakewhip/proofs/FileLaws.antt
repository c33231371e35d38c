-- A call's ways to end, by where it entered: the buffers do not fit or the network is refused, and the answer is that; or
-- the call is reached, under the network. Assumes nothing.
use mathlib.Core.Path.{◌≡◌, refl, sym, ◌∙◌, ap}
use mathlib.Core.Bool.{Bool, true, false, ◌&&◌}
use Rattle.std.specs.Prelude.{Result, Ok, Err}
use Rattle.timetable.specs.Formats.{Outcome, accepted, refused}
use Rattle.replies.specs.Replies.{plain, placed, by_file, told, left}
use Rattle.strakewhip.specs.Types.{Network, Reply}
use Rattle.strakewhip.specs.Calls.{entering}

module _ {X : Type 0} (fits : Bool) (o : Outcome Network) (buffer : X) (call : Network → Reply) (after : Network → X) where
  abbrev pub Ends : Reply → X → Type 0
  Ends x y = (x ≡ told fits o call) × (y ≡ left fits o buffer after)

  -- whatever the network's file holds
  pub unfit : fits ≡ false → Ends (plain 5) buffer
  unfolding told left
  unfit f = (sym (rw f), sym (rw f))

  -- r is where the call entered
  module _ (r : Result Network Reply) (fit : Bool) (same : fit ≡ fits) (entered : r ≡ entering fit o) where
    entry : r ≡ entering fits o
    entry = entered ∙ ap (λ (f : Bool). entering f o) same

    pub reached : (n : Network) → r ≡ Ok n → (x : Reply) (y : X) → x ≡ call n → y ≡ after n → Ends x y
    unfolding told left by_file entering
    reached n e x y p q = go fits o (sym entry ∙ e)
      where
        go : (f : Bool) (w : Outcome Network) → entering f w ≡ Ok n → (x ≡ told f w call) × (y ≡ left f w buffer after)
        go true (accepted m next) h = let same : m ≡ n = cc in rw same (p, q)
        go true (refused k at) h = let z : ◌≡◌ {A = Result Network Reply} (Err (placed 1 k at)) (Ok n) = h in cc
        go false w h = let z : ◌≡◌ {A = Result Network Reply} (Err (plain 5)) (Ok n) = h in cc

    pub stopped : (x : Reply) → r ≡ Err x → Ends x buffer
    unfolding told left by_file entering
    stopped x e = go fits o (sym entry ∙ e)
      where
        go : (f : Bool) (w : Outcome Network) → entering f w ≡ Err x → (x ≡ told f w call) × (buffer ≡ left f w buffer after)
        go true (accepted m next) h = let z : ◌≡◌ {A = Result Network Reply} (Ok m) (Err x) = h in cc
        go true (refused k at) h = let same : placed 1 k at ≡ x = cc in (sym same, refl)
        go false w h = let same : plain 5 ≡ x = cc in (sym same, refl)

-- two tests in a row, by the second or where the first failed
module _ (v s p q : Bool) (first : s ≡ p) where
  pub both_tested : s ≡ true → (r : Bool) → r ≡ q → v ≡ r → v ≡ (p && q)
  both_tested t r f g = rw (sym first ∙ t) (g ∙ f)

  pub one_tested : s ≡ false → v ≡ s → v ≡ (p && q)
  one_tested t g = rw (sym first ∙ t) (g ∙ t)
