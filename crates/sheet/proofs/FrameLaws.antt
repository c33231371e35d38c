-- Pages in a row: writing one page changes just that page, and a sheet's pages and a division's are such pages. Assumes
-- nothing.
use Prim.Native.Nat.{ℕ, ◌+◌, ◌*◌, ◌-◌, ◌≤◌, ◌<◌, min}
use mathlib.Core.Path.{◌≡◌, refl, sym, ◌∙◌, ap, ap₂}
use mathlib.Core.List.{List, ◌++◌, append_assoc}
use mathlib.Core.Logic.{by_cases}
use native.Mathlib.Nat.{add-sub_cancel_left}
use native.Mathlib.Decide.{dec_lt}
use native.Mathlib.Omega.{arith}
use lib.Dec.{T}
use lib.ListN.{length, take, drop, length-append, length-drop, drop_of_length-le}
use lib.Seq.{length-take-le, take_all, take_at, drop_at, take-append-le, drop-append-le, drop-append-add, take-take, drop-drop}
use Rattle.railway.specs.Ranges.{station_ok}
use Rattle.records.specs.Bytes.{splice}
use Rattle.sheet.specs.Sheets.{page_at, sheet_at}
use Rattle.sheet.proofs.FillLaws.{drop_take, deep_page}
use Rattle.sheet.proofs.SheetLaws.{mk, station_low, station_high}
use Rattle.sheet.specs.Types.{Station}
use Rattle.sheet.specs.between.Frames.{frame, put_frame, change_frame}

module _ (i : ℕ) (b : List ℕ) (room : 512 * i + 512 ≤ length b) where
  pub frame_size : length (frame i b) ≡ 512
  unfolding frame
  frame_size = length-take-le 512 (drop (512 * i) b) (omega (arith, length-drop (512 * i) b))

  module _ (page : List ℕ) (size : length page ≡ 512) where
    front : length (take (512 * i) b) ≡ 512 * i
    front = length-take-le (512 * i) b (omega arith)

    pub put_size : length (put_frame i page b) ≡ length b
    unfolding put_frame splice
    put_size =
        length-append (take (512 * i) b) (page ++ drop (512 * i + length page) b)
        ∙ omega (arith, front, length-append page (drop (512 * i + length page) b), length-drop (512 * i + length page) b)

    pub put_same : frame i (put_frame i page b) ≡ page
    unfolding frame put_frame splice
    put_same =
        ap (take 512) (drop_at (take (512 * i) b) (page ++ drop (512 * i + length page) b) (512 * i) front)
        ∙ take_at page (drop (512 * i + length page) b) 512 size

    -- a page before it
    put_before : (j : ℕ) → j < i → frame j (put_frame i page b) ≡ frame j b
    unfolding frame put_frame splice
    put_before j h =
        let rest = page ++ drop (512 * i + length page) b in
        let x = take (512 * i) b in
        let c : 512 * i ≡ 512 * j + (512 * i - 512 * j) = omega arith in
        let d : drop (512 * j) x ≡ take (512 * i - 512 * j) (drop (512 * j) b) =
        ap (λ (k : ℕ). drop (512 * j) (take k b)) c ∙ drop_take (512 * j) (512 * i - 512 * j) b in
        ap (take 512) (drop-append-le (512 * j) x rest (omega (arith, front)))
        ∙ take-append-le 512 (drop (512 * j) x) rest (omega (arith, front, length-drop (512 * j) x))
        ∙ ap (take 512) d ∙ take-take 512 (512 * i - 512 * j) (drop (512 * j) b) (omega arith)

    -- and one behind it
    put_behind : (j : ℕ) → i < j → frame j (put_frame i page b) ≡ frame j b
    unfolding frame put_frame splice
    put_behind j h =
        let rest = drop (512 * i + length page) b in
        let x = take (512 * i) b ++ page in
        let y = 512 * j - (512 * i + 512) in
        let l : length x ≡ 512 * i + 512 = length-append (take (512 * i) b) page ∙ omega (arith, front) in
        let e : 512 * j ≡ length x + y = omega arith in
        let g : 512 * i + length page + y ≡ 512 * j = omega arith in
        ap (λ (k : List ℕ). take 512 (drop (512 * j) k)) (sym (append_assoc (take (512 * i) b) page rest))
        ∙ ap (λ (k : ℕ). take 512 (drop k (x ++ rest))) e
        ∙ ap (take 512) (drop-append-add x rest y ∙ drop-drop y (512 * i + length page) b)
        ∙ ap (λ (k : ℕ). take 512 (drop k b)) g

    pub put_other : (j : ℕ) → ¬ (i ≡ j) → frame j (put_frame i page b) ≡ frame j b
    put_other j h = by_cases (dec_lt j i) (put_before j) (λ k. put_behind j (omega arith))

-- a page changed

module _ (i : ℕ) (f : List ℕ → List ℕ) (b page : List ℕ) (room : 512 * i + 512 ≤ length b) (is : f (frame i b) ≡ page) (size : length page ≡ 512) where
  sized : length (f (frame i b)) ≡ 512
  sized = ap length is ∙ size

  pub change_size : length (change_frame i f b) ≡ length b
  unfolding change_frame
  change_size = put_size i b room (f (frame i b)) sized

  pub change_same : frame i (change_frame i f b) ≡ page
  unfolding change_frame
  change_same = put_same i b room (f (frame i b)) sized ∙ is

  pub change_other : (j : ℕ) → ¬ (i ≡ j) → frame j (change_frame i f b) ≡ frame j b
  unfolding change_frame
  change_other j h = put_other i b room (f (frame i b)) sized j h

-- a part that is lent is a page
pub lent_frame : (i : ℕ) (b : List ℕ) → take (512 * i + 512 - 512 * i) (drop (512 * i) b) ≡ frame i b
unfolding frame
lent_frame i b = rw (add-sub_cancel_left (512 * i) 512)

-- a part that is lent from a page's start up to the next one's, both no further than the buffer's end, is that page:
-- short or empty where the buffer ends
module _ (i at end : ℕ) (b : List ℕ) (start : at ≡ min (512 * i) (length b)) (stop : end ≡ min (512 * i + 512) (length b)) where
  cut_front : take at b ≡ take (512 * i) b
  cut_front = by_cases (dec_lt (512 * i) (length b))
      (λ h. let e : at ≡ 512 * i = omega arith in ap (λ (k : ℕ). take k b) e)
      (λ h. take_all at b (omega arith) ∙ sym (take_all (512 * i) b (omega arith)))

  cut_rest : (k : ℕ) → drop k (drop at b) ≡ drop k (drop (512 * i) b)
  cut_rest k = ap (drop k) (by_cases (dec_lt (512 * i) (length b))
      (λ h. let e : at ≡ 512 * i = omega arith in ap (λ (j : ℕ). drop j b) e)
      (λ h. drop_of_length-le b {i = at} (omega arith) ∙ sym (drop_of_length-le b {i = 512 * i} (omega arith))))

  pub cut_frame : take (end - at) (drop at b) ≡ frame i b
  unfolding frame
  cut_frame = by_cases (dec_lt (length b) (512 * i + 512))
      (λ h. take_all (end - at) (drop at b) (omega (arith, length-drop at b)) ∙ cut_rest 0 ∙ sym (take_all 512 (drop (512 * i) b) (omega (arith, length-drop (512 * i) b))))
      (λ h. let p : end - at ≡ 512 = omega arith in rw p (ap (take 512) (cut_rest 0)))

  -- what a callee that was lent it left there, said of the whole
  pub cut_back : (f : List ℕ → List ℕ) (new : List ℕ) → length new ≡ length (take (end - at) (drop at b)) → new ≡ f (take (end - at) (drop at b))
      → take at b ++ (new ++ drop (end - at) (drop at b)) ≡ change_frame i f b
  unfolding change_frame put_frame splice
  cut_back f new size is =
      let long : length new ≡ end - at = size ∙ length-take-le (end - at) (drop at b) (omega (arith, length-drop at b)) in
      ap₂ (λ (x y : List ℕ). x ++ (new ++ y)) cut_front (cut_rest (end - at) ∙ drop-drop (end - at) (512 * i) b ∙ ap (λ (k : ℕ). drop (512 * i + k) b) (sym long))
      ∙ ap (λ (x : List ℕ). splice (512 * i) x b) (is ∙ ap f cut_frame)

-- of a page that is there whole
pub lent_back : (i : ℕ) (f : List ℕ → List ℕ) (b new : List ℕ) → 512 * i + 512 ≤ length b
    → length new ≡ length (take (512 * i + 512 - 512 * i) (drop (512 * i) b)) → new ≡ f (take (512 * i + 512 - 512 * i) (drop (512 * i) b))
    → take (512 * i) b ++ (new ++ drop (512 * i + 512 - 512 * i) (drop (512 * i) b)) ≡ change_frame i f b
lent_back i f b new room size is = cut_back i (512 * i) (512 * i + 512) b (omega arith) (omega arith) f new size is

-- the pages of a sheet and of a division

pub sheet_frame : (sheet : List ℕ) (k : Station) → page_at sheet k ≡ frame (k.0 - 1) sheet
unfolding page_at frame
sheet_frame sheet k = refl

pub division_frame : (division : List ℕ) (a : ℕ) (k : Station) → T (station_ok k) → page_at (sheet_at division a) k ≡ frame (16 * (a - 1) + (k.0 - 1)) division
unfolding frame
division_frame division a k t =
    let low = station_low k t in
    let high = station_high k t in
    let e : k.0 - 1 + 1 ≡ k.0 = omega arith in
    let g : 8192 * (a - 1) + 512 * (k.0 - 1) ≡ 512 * (16 * (a - 1) + (k.0 - 1)) = omega arith in
    ap (λ (j : ℕ). page_at (sheet_at division a) (mk j)) (sym e)
    ∙ deep_page division (k.0 - 1) a (omega arith)
    ∙ ap (λ (j : ℕ). take 512 (drop j division)) g
