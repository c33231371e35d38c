-- Which refusal each test of the code brings, and what an accepted call has passed. By the values of the tests. Assumes
-- nothing.
use Prim.Native.Nat.{ℕ}
use mathlib.Core.Path.{◌≡◌, refl, sym, ◌∙◌}
use mathlib.Core.Bool.{Bool, true, false, not, ◌||◌}
use native.Mathlib.Omega.{arith}
use lib.Dec.{eqb}
use borrow.Author.Tests.{ne_eqb, eqb-true, eqb-false}
use Rattle.base.specs.Choice.{◌if◌else◌}
use Rattle.std.specs.Prelude.{if◌then◌else◌}
use Rattle.base.proofs.Tests.{T_true, by_value, rest_passed, held}
use Rattle.timetable.specs.Refusals.{or_else, early, call_refusal}

pub or_first : (k later : ℕ) → ¬ (k ≡ 0) → or_else k later ≡ k
unfolding or_else
or_first k later h = rw (ne_eqb k 0 h)

pub or_later : (k later : ℕ) → k ≡ 0 → or_else k later ≡ later
unfolding or_else
or_later k later h = rw h

-- nothing comes behind
pub or_none : (k : ℕ) → or_else k 0 ≡ k
unfolding or_else
or_none k = go (eqb k 0) (eqb-true k 0)
  where
    go : (b : Bool) → (b ≡ true → k ≡ 0) → (if b then 0 else k) ≡ k
    go true f = sym (f refl)
    go false f = refl

-- neither refuses
pub or_passed : (k later : ℕ) → or_else k later ≡ 0 → (k ≡ 0) × (later ≡ 0)
unfolding or_else
or_passed k later e = go (eqb k 0) (eqb-true k 0) (eqb-false k 0) e
  where
    go : (b : Bool) → (b ≡ true → k ≡ 0) → (b ≡ false → ¬ (k ≡ 0)) → (if b then later else k) ≡ 0 → (k ≡ 0) × (later ≡ 0)
    go true f g h = (f refl, h)
    go false f g h = absurd (g refl h)

module _ (own network both : ℕ) where
  pub early_own_range : own ≡ 3 → early own network both ≡ 3
  unfolding early
  early_own_range e = rw e

  pub early_network_range : network ≡ 3 → early own network both ≡ 3
  unfolding early
  early_network_range e = rw e (go (eqb own 3))
    where
      go : (b : Bool) → (3 if b || true else or_else own (or_else 3 both)) ≡ 3
      go true = refl
      go false = refl

  pub early_own : ¬ (own ≡ 3) → ¬ (network ≡ 3) → ¬ (own ≡ 0) → early own network both ≡ own
  unfolding early
  early_own a b c = rw (ne_eqb own 3 a, ne_eqb network 3 b) (or_first own (or_else network both) c)

  pub early_network : own ≡ 0 → ¬ (network ≡ 0) → early own network both ≡ network
  unfolding early or_else
  early_network a c = rw (a, ne_eqb network 0 c) (go (eqb network 3) (eqb-true network 3))
    where
      go : (b : Bool) → (b ≡ true → network ≡ 3) → (3 if b else network) ≡ network
      go true f = sym (f refl)
      go false f = refl

  pub early_both : own ≡ 0 → network ≡ 0 → early own network both ≡ both
  unfolding early or_else
  early_both a b = rw (a, b)

  -- an accepted call has passed all three
  pub early_passed : early own network both ≡ 0 → (own ≡ 0) × (network ≡ 0) × (both ≡ 0)
  unfolding early
  early_passed e = go (eqb own 3 || eqb network 3) e
    where
      go : (b : Bool) → (3 if b else or_else own (or_else network both)) ≡ 0 → (own ≡ 0) × (network ≡ 0) × (both ≡ 0)
      go true h = absurd (omega arith)
      go false h =
          let x = or_passed own (or_else network both) h in
          let y = or_passed network both x.1 in
          (x.0, y.0, y.1)

-- beside what a good network would have refused
module _ (own network both : ℕ) where
  -- that is refused under any
  pub early_not : ¬ (early own 0 both ≡ 0) → ¬ (early own network both ≡ 0)
  early_not h z = let x = early_passed own network both z in h (early_both own 0 both x.0 refl ∙ x.2)

  -- where there is no such refusal, it is the network that refuses
  pub early_only : early own 0 both ≡ 0 → early own network both ≡ network
  early_only h =
      let x = early_passed own 0 both h in
      by_value (eqb network 0)
      (λ t. let z = eqb-true network 0 t in early_both own network both x.0 z ∙ x.2 ∙ sym z)
      (λ t. early_network own network both x.0 (eqb-false network 0 t))

module _ (fits : Bool) (k : ℕ) (good : Bool) (late : ℕ) where
  pub call_short : fits ≡ false → call_refusal fits k good late ≡ 5
  unfolding call_refusal
  call_short e = rw e

  pub call_early : fits ≡ true → ¬ (k ≡ 0) → call_refusal fits k good late ≡ k
  unfolding call_refusal
  call_early e h = rw e (or_first k _ h)

  pub call_bad : fits ≡ true → k ≡ 0 → good ≡ false → call_refusal fits k good late ≡ 6
  unfolding call_refusal or_else
  call_bad e h g = rw (e, h, g)

  pub call_late : fits ≡ true → k ≡ 0 → good ≡ true → call_refusal fits k good late ≡ late
  unfolding call_refusal or_else
  call_late e h g = rw (e, h, g)

  pub call_fits : fits ≡ true → good ≡ true → call_refusal fits k good late ≡ or_else k late
  unfolding call_refusal
  call_fits e g = rw (e, g)

  -- what has been passed where nothing refuses
  pub call_passed : call_refusal fits k good late ≡ 0 → (fits ≡ true) × (k ≡ 0) × (good ≡ true) × (late ≡ 0)
  unfolding call_refusal
  call_passed e =
      let p = or_passed k (6 if not good else late) (rest_passed 4 (not fits) (or_else k (6 if not good else late)) e) in
      (T_true fits (held 4 fits (or_else k (6 if not good else late)) e), p.0, T_true good (held 5 good late p.1), rest_passed 5 (not good) late p.1)
