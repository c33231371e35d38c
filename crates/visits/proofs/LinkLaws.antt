-- A test of a link, where the link is known: the visit is itself with that link. Assumes nothing.
use mathlib.Core.Bool.{Bool, false}
use mathlib.Core.Path.{◌≡◌, ap}
use Rattle.railway.specs.declared.visit.InLink.{InLink}
use Rattle.railway.specs.declared.visit.OutLink.{OutLink}
use Rattle.railway.specs.declared.visit.Inward.{Inward}
use Rattle.railway.specs.declared.visit.Outward.{Outward}
use Rattle.railway.specs.declared.visit.Visit.{Visit}
use Rattle.timetable.specs.Visits.{comes, leaves, with_in, with_out}

module _ (f : Inward → Bool) (v : Visit) where
  pub comes_at : (i : Inward) → v.inward ≡ InLink.From i → comes f v ≡ f i
  unfolding comes with_in
  comes_at i e = ap (λ (l : InLink). comes f (with_in l v)) e

  pub comes_none : v.inward ≡ InLink.Nothing → comes f v ≡ false
  unfolding comes with_in
  comes_none e = ap (λ (l : InLink). comes f (with_in l v)) e

module _ (f : Outward → Bool) (v : Visit) where
  pub leaves_at : (o : Outward) → v.outward ≡ OutLink.To o → leaves f v ≡ f o
  unfolding leaves with_out
  leaves_at o e = ap (λ (l : OutLink). leaves f (with_out l v)) e

  pub leaves_none : v.outward ≡ OutLink.Nothing → leaves f v ≡ false
  unfolding leaves with_out
  leaves_none e = ap (λ (l : OutLink). leaves f (with_out l v)) e
