-- Two lists of findings as one: what leads before a finding and what trails it is the list, so counts add up. Of rising
-- lists with no finding in common the one list rises, since what is not before a finding is after it; and those of a
-- rising list that pass a test, together with those that do not, are the list. Assumes nothing.
use Prim.Native.Nat.{◌+◌}
use mathlib.Core.Path.{◌≡◌, refl, ◌∙◌, ap, ap₂}
use mathlib.Core.Bool.{Bool, true, false, not, ◌&&◌, ◌||◌}
use mathlib.Core.List.{List, [], ◌∷◌, ◌++◌}
use native.Mathlib.Omega.{arith}
use lib.Dec.{T, eqb, eqb→eq, T_not, not_T}
use Rattle.std.specs.Prelude.{if◌then◌else◌}
use Rattle.base.specs.Lists.{every, keep, count, each_two, same}
use Rattle.base.proofs.Tests.{T_true, and_l, and_r, or_l, or_r, or_cases, parts, every_head, every_tail, every_cons, every_weaker, every_both, every_append, every_keep, kept_passes}
use Rattle.base.proofs.Counts.{count_append, keep_none, keep_every}
use Rattle.base.proofs.Sorted.{two_head, two_tail, two_cons, two_append, two_keep, same_refl, same_equal, below_itself, below_trans, below_total}
use Rattle.timetable.specs.Findings.{numbers}
use Rattle.timetable.specs.Recheck.{redone_at, stale, before, leading, trailing, together, updated}
use Rattle.timetable.proofs.Locality.{same_station_equal}
use Rattle.theory.specs.Types.{Edit, Network, Finding}
use Rattle.theory.specs.Statements.{times_listed}
use Rattle.theory.specs.Rechecks.{elsewhere, AnyListJoins}

abbrev pub Rises : List Finding → Type 0
Rises fs = T (each_two before fs)

-- the two have the same four numbers
abbrev alike : Finding → Finding → Bool
alike f g = same (numbers f) (numbers g)

-- a list parted at a finding: what leads, and what trails

module _ (f : Finding) where
  abbrev early : Finding → Bool
  early g = before g f

  abbrev late : Finding → Bool
  late g = not (before g f)

  whole_again : (gs : List Finding) → leading f gs ++ trailing f gs ≡ gs
  unfolding leading trailing
  whole_again [] = refl
  whole_again (g ∷ gs) = go (early g) (whole_again gs)
    where
      go : (b : Bool) → leading f gs ++ trailing f gs ≡ gs → (if b then g ∷ leading f gs else []) ++ (if b then trailing f gs else (g ∷ gs)) ≡ g ∷ gs
      go true ih = ap (λ l. g ∷ l) ih
      go false ih = refl

  -- behind one that is late all are
  late_on : (g : Finding) (gs : List Finding) → early g ≡ false → T (every (before g) gs) → T (every late gs)
  late_on g gs e = every_weaker (before g) late (λ h t. not_T (early h) (λ u. rw e at (below_trans (numbers g) (numbers h) (numbers f) t u))) gs

  leading_kept : (gs : List Finding) → Rises gs → leading f gs ≡ keep early gs
  unfolding leading keep
  leading_kept [] o = refl
  leading_kept (g ∷ gs) o = go (early g) refl (leading_kept gs (two_tail before g gs o))
    where
      go : (b : Bool) → early g ≡ b → leading f gs ≡ keep early gs → (if b then g ∷ leading f gs else []) ≡ (if b then g ∷ keep early gs else keep early gs)
      go true e ih = ap (λ l. g ∷ l) ih
      go false e ih = rw (keep_none early gs (late_on g gs e (two_head before g gs o)))

  trailing_kept : (gs : List Finding) → Rises gs → trailing f gs ≡ keep late gs
  unfolding trailing keep
  trailing_kept [] o = refl
  trailing_kept (g ∷ gs) o = go (early g) refl (trailing_kept gs (two_tail before g gs o))
    where
      go : (b : Bool) → early g ≡ b → trailing f gs ≡ keep late gs → (if b then trailing f gs else (g ∷ gs)) ≡ (if not b then g ∷ keep late gs else keep late gs)
      go true e ih = ih
      go false e ih = rw (keep_every late gs (late_on g gs e (two_head before g gs o)))

  -- what is late and not the same comes after
  trailing_after : (gs : List Finding) → Rises gs → T (every (λ g. not (alike g f)) gs) → T (every (before f) (trailing f gs))
  trailing_after gs o d =
      rw (trailing_kept gs o)
      (every_weaker (λ g. late g && not (alike g f)) (before f)
      (λ g t. below_total (numbers g) (numbers f) (T_not (early g) (and_l (late g) (not (alike g f)) t)) (T_not (alike g f) (and_r (late g) (not (alike g f)) t)))
      (keep late gs) (every_both late (λ g. not (alike g f)) (keep late gs) (kept_passes late gs) (every_keep (λ g. not (alike g f)) late gs d)))

  -- what comes after trails
  all_late : (gs : List Finding) → T (every (before f) gs) → T (every late gs)
  all_late = every_weaker (before f) late (λ g t. not_T (early g) (λ u. below_itself (numbers f) (below_trans (numbers f) (numbers g) (numbers f) t u)))

  none_leads : (gs : List Finding) → Rises gs → T (every (before f) gs) → leading f gs ≡ []
  none_leads gs o t = leading_kept gs o ∙ keep_none early gs (all_late gs t)

  all_trail : (gs : List Finding) → Rises gs → T (every (before f) gs) → trailing f gs ≡ gs
  all_trail gs o t = trailing_kept gs o ∙ keep_every late gs (all_late gs t)

-- two lists as one

count_together : (q : Finding → Bool) (fs gs : List Finding) → count q (together fs gs) ≡ count q fs + count q gs
unfolding together count
count_together q [] gs = omega arith
count_together q (f ∷ fs) gs =
    omega (
      arith,
      count_append q (leading f gs) (f ∷ together fs (trailing f gs)),
      count_together q fs (trailing f gs),
      count_append q (leading f gs) (trailing f gs),
      ap (count q) (whole_again f gs),
    )

module _ (f : Finding) (gs : List Finding) (o : Rises gs) where
  leading_every : (q : Finding → Bool) → T (every q gs) → T (every q (leading f gs))
  leading_every q t = rw (leading_kept f gs o) (every_keep q (early f) gs t)

  trailing_every : (q : Finding → Bool) → T (every q gs) → T (every q (trailing f gs))
  trailing_every q t = rw (trailing_kept f gs o) (every_keep q (late f) gs t)

  leading_rises : Rises (leading f gs)
  leading_rises = rw (leading_kept f gs o) (two_keep before (early f) gs o)

  trailing_rises : Rises (trailing f gs)
  trailing_rises = rw (trailing_kept f gs o) (two_keep before (late f) gs o)

  leading_early : T (every (early f) (leading f gs))
  leading_early = rw (leading_kept f gs o) (kept_passes (early f) gs)

every_together : (q : Finding → Bool) (fs gs : List Finding) → Rises gs → T (every q fs) → T (every q gs) → T (every q (together fs gs))
unfolding together
every_together q [] gs o t u = u
every_together q (f ∷ fs) gs o t u =
    every_append q (leading f gs) (f ∷ together fs (trailing f gs)) (leading_every f gs o q u)
    (every_cons q f (together fs (trailing f gs)) (every_head q f fs t)
    (every_together q fs (trailing f gs) (trailing_rises f gs o) (every_tail q f fs t) (trailing_every f gs o q u)))

-- p tells the two lists apart: none of the first passes, each of the second does
module _ (p : Finding → Bool) (by-numbers : (f g : Finding) → T (alike f g) → p f ≡ p g) where
  differ : (f : Finding) → T (not (p f)) → (gs : List Finding) → T (every p gs) → T (every (λ g. not (alike g f)) gs)
  differ f t = every_weaker p (λ g. not (alike g f)) (λ g u. not_T (alike g f) (λ s. T_not (p f) t (rw (by-numbers g f s) at u)))

  rises_together : (fs gs : List Finding) → Rises fs → Rises gs → T (every (λ f. not (p f)) fs) → T (every p gs) → Rises (together fs gs)
  unfolding together
  rises_together [] gs o v t u = v
  rises_together (f ∷ fs) gs o v t u =
      let rest : List Finding = together fs (trailing f gs) in
      let after : T (every (before f) rest) =
      every_together (before f) fs (trailing f gs) (trailing_rises f gs v) (two_head before f fs o)
      (trailing_after f gs v (differ f (every_head (λ g. not (p g)) f fs t) gs u)) in
      two_append before (early f) (λ h. before f h || alike f h) across (leading f gs) (f ∷ rest)
      (leading_rises f gs v)
      (two_cons before f rest after
      (rises_together fs (trailing f gs) (two_tail before f fs o) (trailing_rises f gs v) (every_tail (λ g. not (p g)) f fs t) (trailing_every f gs v p u)))
      (leading_early f gs v)
      (every_cons (λ h. before f h || alike f h) f rest (or_r (before f f) (alike f f) (same_refl (numbers f)))
      (every_weaker (before f) (λ h. before f h || alike f h) (λ h. or_l (before f h) (alike f h)) rest after))
    where
      across : (g h : Finding) → T (before g f) → T (before f h || alike f h) → T (before g h)
      across g h a b =
          or_cases (before f h) (alike f h) b (below_trans (numbers g) (numbers f) (numbers h) a)
          (λ s. rw (same_equal (numbers f) (numbers h) s) at a)

-- a finding before all of the first list comes first
first_of_both : (f : Finding) (fs gs : List Finding) → T (every (before f) fs) → together fs (f ∷ gs) ≡ f ∷ together fs gs
unfolding together leading trailing
first_of_both f [] gs t = refl
first_of_both f (g ∷ fs) gs t = rw (T_true (before f g) (every_head (before f) g fs t))

-- the parts of a rising list
pub parts_together : (p : Finding → Bool) (fs : List Finding) → Rises fs → together (keep (λ f. not (p f)) fs) (keep p fs) ≡ fs
unfolding together keep
parts_together p [] o = refl
parts_together p (f ∷ fs) o = go (p f) (parts_together p fs rest)
  where
    others : List Finding
    others = keep (λ g. not (p g)) fs

    rest : Rises fs
    rest = two_tail before f fs o

    kept_after : (q : Finding → Bool) → T (every (before f) (keep q fs))
    kept_after q = every_keep (before f) q fs (two_head before f fs o)

    go : (b : Bool) → together others (keep p fs) ≡ fs
        → together (if not b then f ∷ others else others) (if b then f ∷ keep p fs else keep p fs) ≡ f ∷ fs
    go true ih = first_of_both f others (keep p fs) (kept_after (λ g. not (p g))) ∙ ap (λ l. f ∷ l) ih
    go false ih =
        rw (none_leads f (keep p fs) (two_keep before p fs rest) (kept_after p), all_trail f (keep p fs) (two_keep before p fs rest) (kept_after p))
        (ap (λ l. f ∷ l) ih)

-- whether a finding is stale is told by its numbers
stale_by_numbers : (n : Network) (e : Edit) (f g : Finding) → T (alike f g) → stale n e f ≡ stale n e g
unfolding stale same
stale_by_numbers n e f g t =
    let place : f.station ≡ g.station = same_station_equal f.station g.station (search parts) in
    let number : T (eqb f.rule g.rule) = search parts in
    ap₂ (redone_at n e) place (eqb→eq f.rule g.rule number)

pub any_list_joins : AnyListJoins
unfolding updated elsewhere times_listed
any_list_joins n e old new o v = record {
  rises =
      rises_together (stale n e) (stale_by_numbers n e) (keep (λ f. not (stale n e f)) old) (keep (stale n e) new)
      (two_keep before (λ f. not (stale n e f)) old o) (two_keep before (stale n e) new v)
      (kept_passes (λ f. not (stale n e f)) old) (kept_passes (stale n e) new);
  entries = λ f. count_together (alike f) (keep (λ g. not (stale n e g)) old) (keep (stale n e) new);
}
