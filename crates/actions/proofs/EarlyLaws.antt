-- What the network knows of an edit, by the tests that the code makes; and what an edit that is not refused early has
-- passed. Assumes nothing.
use Prim.Native.Nat.{ℕ}
use mathlib.Core.Path.{◌≡◌, refl, sym}
use mathlib.Core.Bool.{true, ◌&&◌}
use lib.Dec.{T}
use borrow.Author.Tests.{eq-eqb}
use Rattle.base.proofs.Tests.{true_T, held}
use Rattle.network.specs.Networks.{network_refusal, listed}
use Rattle.timetable.specs.Refusals.{early}
use Rattle.timetable.specs.Machine.{Meaning, local, throughout, meaning, known, edit_refusal, sound}
use Rattle.timetable.proofs.RefusalLaws.{early_passed}
use Rattle.actions.specs.Types.{Station, Train, Edit, Network, Local, Throughout}
use Rattle.actions.specs.between.Shapes.{shape_of}
use Rattle.actions.specs.Early.{fits_of, fits_network, unknown_refusal, early_refusal}

module _ (n : Network) where
  pub known_everywhere : (μ : Meaning) (t : Train) → shape_of μ ≡ Throughout t → fits_network n μ ≡ true
  unfolding shape_of fits_network
  known_everywhere (local a) t q = cc
  known_everywhere (throughout u) t q = refl

  pub known_ends : (μ : Meaning) (home away : Station) (adds removes : ℕ) → shape_of μ ≡ Local home away adds removes
      → fits_network n μ ≡ ((listed n home && listed n away) && fits_of n μ)
  unfolding shape_of fits_network fits_of known
  known_ends (local a) home away adds removes q = cc
  known_ends (throughout t) home away adds removes q = cc

-- an edit that nothing refuses before a sheet is looked at
pub record Early (n : Network) (e : Edit) : Type 0 where
  pub network : network_refusal n ≡ 0
  pub ok : T (sound e)
  pub fits : T (fits_network n (meaning e))

pub early_facts : (n : Network) (e : Edit) → early_refusal n e ≡ 0 → Early n e
unfolding early_refusal unknown_refusal
early_facts n e h =
    let x = early_passed (edit_refusal e) (network_refusal n) (unknown_refusal n e) h in
    record { network = x.1; ok = true_T (sound e) (eq-eqb (edit_refusal e) 0 x.0); fits = held 6 (fits_network n (meaning e)) 0 x.2 }

-- under a good network it is the edit alone that is tested
pub early_under : (n : Network) (e : Edit) → network_refusal n ≡ 0 → early (edit_refusal e) 0 (unknown_refusal n e) ≡ early_refusal n e
unfolding early_refusal
early_under n e good = sym (rw good)
