-- Edits and lists of edits read back in any form that can say them, and only the written file reads to them: the laws
-- of walks, at the formats of edits. Assumes nothing.
use Prim.Native.Nat.{ℕ, ◌+◌, ◌≤◌}
use mathlib.Core.Path.{◌≡◌, sym, ◌∙◌, ap, ap₂, subst}
use mathlib.Core.List.{List, [], ◌∷◌, ◌++◌, flat_map}
use native.Mathlib.Omega.{arith}
use lib.Dec.{T}
use lib.ListN.{length, drop}
use Rattle.base.specs.Lists.{every}
use Rattle.base.proofs.Tests.{both, every_head, every_tail, every_cons, every_all}
use Rattle.numbers.specs.Numbers.{width}
use Rattle.railway.specs.Edits.{edit_ok}
use Rattle.timetable.specs.declared.FileForm.{FileForm}
use Rattle.timetable.specs.Formats.{bytes_of, Placed}
use Rattle.timetable.specs.FileForms.{newest_form, mark_said, minute_said}
use Rattle.timetable.specs.EditsFile.{edit_entry, edit_numbers, mark_of, minute_of, edit_said, edits_on, edits_format, read_edits_as, edits_numbers}
use Rattle.roundtrips.specs.Types.{Edit}
use Rattle.roundtrips.proofs.Walks.{walks}
use Rattle.roundtrips.specs.RoundTrips.{EditRoundTrip, EditsRoundTrip}
use Rattle.roundtrips.proofs.WalkLaws.{span, read_walks, walks_read, file_read, file_walks}
use Rattle.roundtrips.proofs.RowsWalked.{Chain, walks_placed, placed_walks, Entry, walks_plain, plain_walks}
use Rattle.roundtrips.proofs.MarkLaws.{newest_says, newest_tells}
use Rattle.roundtrips.proofs.EditWalks.{walks_edit, edit_walks}

pub edit_trip : (form : FileForm) → EditRoundTrip form
edit_trip form = record {
  back = λ e file at rest t u q. walks_read (edit_entry form) file at (edit_numbers form e) e rest (walks_edit form at e t u) q;
  only = λ file at e next s q.
      let w = read_walks (edit_entry form) file at e next s q in
      let (x, t, u) = edit_walks form at w.numbers e w.walk in
      record { good = t; said = u; bytes = w.bytes ∙ ap (λ (l : List ℕ). bytes_of l ++ drop next file) x; end = w.end ∙ ap (λ (l : List ℕ). at + span l) x };
}

-- any edit is said in the newest form

pub edit_said_newest : (e : Edit) → T (edit_said newest_form e)
unfolding edit_said
edit_said_newest e = both (mark_said newest_form (mark_of e)) (minute_said newest_form (minute_of e)) (newest_says (mark_of e)) (newest_tells (minute_of e))

pub edits_said_newest : (es : List Edit) → T (every (edit_said newest_form) es)
edits_said_newest es = every_all (edit_said newest_form) edit_said_newest es

-- lists

abbrev no_floor : Edit → List ℕ
no_floor e = []

module _ (form : FileForm) where
  abbrev fits : List ℕ → Edit → Type 0
  fits floor e = T (edit_ok e) × T (edit_said form e)

  every_chain : (floor : List ℕ) (es : List Edit) → T (every edit_ok es) → T (every (edit_said form) es) → Chain no_floor fits floor es
  unfolding Chain
  every_chain floor [] t u = tt
  every_chain floor (e ∷ es) t u =
      ((every_head edit_ok e es t, every_head (edit_said form) e es u), every_chain [] es (every_tail edit_ok e es t) (every_tail (edit_said form) e es u))

  chain_every : (floor : List ℕ) (es : List Edit) → Chain no_floor fits floor es → T (every edit_ok es) × T (every (edit_said form) es)
  unfolding Chain every
  chain_every floor [] c = (tt, tt)
  chain_every floor (e ∷ es) ((t, u), c) =
      let (x, y) = chain_every [] es c in
      (every_cons edit_ok e es t x, every_cons (edit_said form) e es u y)

  edit_law : Entry (λ floor. edit_entry form) (edit_numbers form) fits
  edit_law = record {
    walk = λ floor p e (t, u). walks_edit form p e t u;
    back = λ floor p ns e w. let (x, t, u) = edit_walks form p ns e w in (x, (t, u));
  }

  pub walks_edits : (p : ℕ) (es : List Edit) → T (every edit_ok es) → T (every (edit_said form) es) → walks (edits_on form (length es)) p (flat_map (edit_numbers form) es) es
  unfolding edits_on
  walks_edits p es t u = walks_plain (λ floor. edit_entry form) (edit_numbers form) no_floor fits edit_law es [] p (every_chain [] es t u)

  pub edits_walk : (k p : ℕ) (ns : List ℕ) (es : List Edit) → walks (edits_on form k) p ns es
      → (ns ≡ flat_map (edit_numbers form) es) × T (every edit_ok es) × T (every (edit_said form) es) × (length es ≡ k)
  unfolding edits_on
  edits_walk k p ns es w =
      let (x, c, l) = plain_walks (λ floor. edit_entry form) (edit_numbers form) no_floor fits edit_law k [] p ns es w in
      let (t, u) = chain_every [] es c in
      (x, t, u, l)

  pub walks_edits_format : (p : ℕ) (es : List Edit) → length es ≤ 1000 → T (every edit_ok es) → T (every (edit_said form) es)
      → walks (edits_format form) p (edits_numbers form es) (record { place = p + width (length es); entry = es })
  unfolding walks edits_format edits_numbers
  walks_edits_format p es h t u = (
    record { low = omega arith; high = h; short = omega arith },
    walks_placed (edits_on form (length es)) (p + width (length es)) (flat_map (edit_numbers form) es) es (walks_edits (p + width (length es)) es t u),
  )

  pub edits_format_walks : (p : ℕ) (ns : List ℕ) (v : Placed (List Edit)) → walks (edits_format form) p ns v
      → (ns ≡ edits_numbers form v.entry) × (length v.entry ≤ 1000) × T (every edit_ok v.entry) × T (every (edit_said form) v.entry)
      × (v.place ≡ p + width (length v.entry))
  unfolding walks edits_format edits_numbers
  edits_format_walks p [] v w = absurd w
  edits_format_walks p (k ∷ ns) v (x, w) =
      let (u, q) = placed_walks (edits_on form k) (p + width k) ns v w in
      let (y, t, s, l) = edits_walk k (p + width k) ns v.entry u in
      (ap₂ (λ (k : ℕ) (l : List ℕ). k ∷ l) (sym l) y, omega (arith, x.high), t, s, q ∙ ap (λ (k : ℕ). p + width k) (sym l))

pub edits_trip : (form : FileForm) → EditsRoundTrip form
unfolding read_edits_as
edits_trip form = record {
  back = λ es h t u.
      let e : 0 + width (length es) ≡ width (length es) = omega arith in
      file_read (edits_format form) (edits_numbers form es) (record { place = width (length es); entry = es })
      (subst (λ (k : ℕ). walks (edits_format form) 0 (edits_numbers form es) (record { place = k; entry = es })) e (walks_edits_format form 0 es h t u));
  only = λ file es next s q.
      let w = file_walks (edits_format form) file es next s q in
      let (x, h, t, u, p) = edits_format_walks form 0 w.numbers es w.walk in
      record {
        file_is = w.bytes ∙ ap bytes_of x;
        end = w.end ∙ ap length (sym w.bytes);
        few = h;
        good = t;
        said = u;
        first = omega (arith, p);
      };
}
