-- An edit on pages, case by case as the code takes it: at all listed stations or at one or two; refused, or done.
-- Assumes nothing.
use Prim.Native.Nat.{ℕ}
use mathlib.Core.Path.{◌≡◌, refl}
use mathlib.Core.List.{List}
use lib.Dec.{eqb}
use Rattle.std.specs.Prelude.{if◌then◌else◌}
use Rattle.timetable.specs.Machine.{meaning}
use Rattle.actions.specs.between.Shapes.{shape_of}
use Rattle.edit_refusals.specs.between.Refusing.{refuses_on}
use Rattle.edit_changes.specs.between.EditPages.{here_page}
use Rattle.sheet.specs.between.Frames.{frame, change_frame}
use Rattle.page_edits.specs.Types.{Layout, Station, Train, Edit, Network, Shape, Local, Throughout}
use Rattle.page_edits.specs.between.PageEdits.{place_of, places, swept, sweep, removed_in, pair_refusal, pair_answer, far_changed, pair_after, pair_changed}
use Rattle.page_edits.specs.between.PageEdits.{by_shape, frames_refusal, frames_removed, frames_changed, frames_answer, frames_after}

module _ (layout : Layout) (n : Network) (e : Edit) (b : List ℕ) where
  -- at all listed stations
  module _ (t : Train) (q : shape_of (meaning e) ≡ Throughout t) where
    pub all_unrefused : frames_refusal layout n e b ≡ 0
    unfolding frames_refusal
    all_unrefused = rw q

    pub all_removed : frames_removed layout n e b ≡ swept t (places layout n) b
    unfolding frames_removed
    all_removed = rw q

    pub all_changed : frames_changed layout n e b ≡ sweep t (places layout n) b
    unfolding frames_changed
    all_changed = rw q

  -- at one or two
  module _ (home away : Station) (adds removes : ℕ) (q : shape_of (meaning e) ≡ Local home away adds removes) where
    abbrev i : ℕ
    i = place_of layout n home

    abbrev j : ℕ
    j = place_of layout n away

    pub two_refused : frames_refusal layout n e b ≡ refuses_on n (meaning e) (frame i b) (frame j b)
    unfolding frames_refusal pair_refusal
    two_refused = rw q

    pub two_removed : frames_removed layout n e b ≡ removes
    unfolding frames_removed
    two_removed = rw q

    pub two_changed : frames_changed layout n e b ≡ change_frame i (here_page e) (far_changed e i j b)
    unfolding frames_changed pair_changed
    two_changed = rw q

  -- the edit: what it is refused with, and else what it makes of them
  pub frames_told : frames_answer layout n e b
      ≡ record { refusal = frames_refusal layout n e b; removed = if eqb (frames_refusal layout n e b) 0 then frames_removed layout n e b else 0 }
  unfolding frames_answer frames_refusal frames_removed pair_answer
  frames_told = go (shape_of (meaning e)) refl
    where
      go : (x : Shape) → shape_of (meaning e) ≡ x → by_shape layout n (λ i j. pair_answer n e i j b) (λ t is. record { refusal = 0; removed = swept t is b }) x
          ≡ record {
            refusal = by_shape layout n (λ i j. pair_refusal n e i j b) (λ t is. 0) x;
            removed = if eqb (by_shape layout n (λ i j. pair_refusal n e i j b) (λ t is. 0) x) 0
                then by_shape layout n (λ i j. removed_in (shape_of (meaning e))) (λ t is. swept t is b) x
                else 0;
          }
      go (Local home away adds removes) q = refl
      go (Throughout t) q = refl

  pub frames_left : frames_after layout n e b ≡ (if eqb (frames_refusal layout n e b) 0 then frames_changed layout n e b else b)
  unfolding frames_after frames_refusal frames_changed pair_after pair_changed
  frames_left = go (shape_of (meaning e))
    where
      go : (x : Shape) → by_shape layout n (λ i j. pair_after n e i j b) (λ t is. sweep t is b) x
          ≡ (if eqb (by_shape layout n (λ i j. pair_refusal n e i j b) (λ t is. 0) x) 0
          then by_shape layout n (λ i j. pair_changed e i j b) (λ t is. sweep t is b) x
          else b)
      go (Local home away adds removes) = refl
      go (Throughout t) = refl
