-- Findings of one station that stand side by side: in a list whose stations do not fall, those between two of a station
-- have it too; what is behind the first of a run is a run too; where all or nothing is redone at the station, none or all of the run's numbers stay, by
-- induction over its findings. Assumes nothing.
use Prim.Native.Nat.{ℕ, zero, suc, ◌+◌, ◌*◌, ◌-◌, ◌/◌, ◌%◌, ◌<◌, ◌≤◌}
use mathlib.Core.Path.{◌≡◌, ◌∙◌, ap}
use mathlib.Core.Bool.{true, false}
use mathlib.Core.List.{List}
use native.Mathlib.Omega.{arith}
use lib.ListN.{length, drop, get_or}
use Rattle.scope.specs.Redone.{level, is_redone}
use Rattle.recheck.specs.Types.{Marks}
use Rattle.recheck.specs.between.Kept.{kept_numbers, Ordered, Alike, Run, Stay}
use Rattle.recheck.proofs.FourLaws.{length_skip, length_stay}

-- findings of one station

module _ (station : ℕ) (list : List ℕ) (i : ℕ) where
  -- one of the station further on: those between have it too
  pub alike_up_to : Ordered list → i % 4 ≡ 0 → (m : ℕ) → i + 4 * m + 4 ≤ length list → get_or list i 0 ≡ station → get_or list (i + 4 * m) 0 ≡ station
      → Alike station list i (i + 4 * (m + 1))
  alike_up_to o z m h first last j l =
      let from = o i (i + 4 * j) (omega arith) z (omega (arith, z)) (omega arith) in
      let to = o (i + 4 * j) (i + 4 * m) (omega arith) (omega (arith, z)) (omega (arith, z)) (omega arith) in
      omega (arith, from, to, first, last)

  module _ (end : ℕ) (a : Alike station list i end) where
    pub alike_first : i < end → get_or list i 0 ≡ station
    alike_first h = let e : i ≡ i + 4 * 0 = omega arith in ap (λ (k : ℕ). get_or list k 0) e ∙ a 0 (omega arith)

    pub alike_rest : Alike station list (i + 4) end
    alike_rest j h =
        let e : i + 4 + 4 * j ≡ i + 4 * (j + 1) = omega arith in
        ap (λ (k : ℕ). get_or list k 0) e ∙ a (j + 1) (omega arith)

-- how many findings there are from one place up to another
pub findings_in : (i end : ℕ) → i ≤ end → (end - i) % 4 ≡ 0 → i + 4 * ((end - i) / 4) ≡ end
findings_in i end h z = omega arith

-- all or nothing is redone at a station

module _ (marks : Marks) (station k rule : ℕ) (same : k ≡ station) where
  pub all_go : level marks station ≡ 2 → is_redone marks k rule ≡ true
  unfolding is_redone
  all_go e = rw (same, e)

  pub none_goes : level marks station ≡ 0 → is_redone marks k rule ≡ false
  unfolding is_redone
  none_goes e = rw (same, e)

module _ (marks : Marks) (station : ℕ) (list : List ℕ) (end : ℕ) (fits : end ≤ length list) where
  goes : level marks station ≡ 2 → (n i : ℕ) → i + 4 * n ≡ end → Alike station list i end
      → length (kept_numbers marks (drop i list)) ≡ length (kept_numbers marks (drop end list))
  goes e zero i l a = let met : i ≡ end = omega (arith, l) in ap (λ (k : ℕ). length (kept_numbers marks (drop k list))) met
  goes e (suc n) i l a =
      length_skip marks i list (omega (arith, l, fits)) (all_go marks station (get_or list i 0) (get_or list (i + 1) 0) (alike_first station list i end a (omega (arith, l))) e)
      ∙ goes e n (i + 4) (omega (arith, l)) (alike_rest station list i end a)

  stays : level marks station ≡ 0 → (n i : ℕ) → i + 4 * n ≡ end → Alike station list i end
      → length (kept_numbers marks (drop i list)) ≡ 4 * n + length (kept_numbers marks (drop end list))
  stays e zero i l a = let met : i ≡ end = omega (arith, l) in ap (λ (k : ℕ). length (kept_numbers marks (drop k list))) met ∙ omega arith
  stays e (suc n) i l a =
      length_stay marks i list (omega (arith, l, fits)) (none_goes marks station (get_or list i 0) (get_or list (i + 1) 0) (alike_first station list i end a (omega (arith, l))) e)
      ∙ omega (arith, stays e n (i + 4) (omega (arith, l)) (alike_rest station list i end a))

module _ (marks : Marks) (list : List ℕ) (i end : ℕ) (run : Run list i end) where
  pub run_goes : level marks (get_or list i 0) ≡ 2 → Stay marks list i end 0
  run_goes e =
      let many = findings_in i end (omega (arith, run.0)) run.2 in
      (omega arith, goes marks (get_or list i 0) list end run.1 e ((end - i) / 4) i many run.3 ∙ omega arith)

  pub run_stays : level marks (get_or list i 0) ≡ 0 → Stay marks list i end (end - i)
  run_stays e =
      let many = findings_in i end (omega (arith, run.0)) run.2 in
      (omega arith, stays marks (get_or list i 0) list end run.1 e ((end - i) / 4) i many run.3 ∙ omega (arith, many))
