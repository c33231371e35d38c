-- Calls that fill a lent buffer, for whoever calls one: a call that is not refused and has room answers that it is
-- written; and a call that puts a text at once, or counts it first, answers as it promises. Assumes nothing.
use Prim.Native.Nat.{ℕ, ◌≤◌, ◌<◌}
use mathlib.Core.Logic.{by_cases}
use Rattle.std.specs.Prelude.{None, Result, Ok, Err}
use native.Mathlib.Decide.{ℕ_discrete}
use mathlib.Core.Path.{◌≡◌, refl, sym, ◌∙◌, ap}
use mathlib.Core.Bool.{Bool, true, false}
use mathlib.Core.List.{List, ◌++◌}
use native.Mathlib.Omega.{arith}
use lib.Dec.{leb}
use lib.ListN.{length, take, drop}
use lib.Seq.{take-append_seam}
use borrow.Author.Tests.{leb-true, leb-false, ne_eqb}
use Rattle.std.specs.Prelude.{if◌then◌else◌}
use Rattle.base.specs.RefusalNumbers.{number_of}
use Rattle.base.specs.declared.refusal.Refusal.{Refusal}
use Rattle.base.specs.declared.refusal.OutputError.{OutputError}
use Rattle.timetable.specs.Outputs.{Puts, Reply, written, needed, refused, reply_of, output, output_after}
use Rattle.timetable.proofs.BuffersFilled.{put_whole}
use Rattle.timetable.proofs.OutputLaws.{short_of, filled}
use Rattle.timetable.proofs.ReplyLaws.{clash, same_size}
use Rattle.timetable.proofs.DraftsHandedOver.{draft_holds}

written_alone : (r : Result ℕ OutputError) (k : ℕ) → reply_of r ≡ written k → r ≡ Ok k
unfolding reply_of
written_alone (Ok j) k e = ap Ok (same_size (written j) (written k) j k e refl refl)
written_alone (Err (OutputError.Refused j)) k e = clash k (ap (λ (r : Reply). r.size) e)
written_alone (Err (OutputError.TooShort j)) k e = let z : ◌≡◌ {A = ℕ} 13 0 = ap (λ (r : Reply). r.number) e in absurd (omega (arith, z))

-- what an answer says of its call: written, it was not refused; refused, it was; and too short, it was not, and had no
-- room
module _ {X : Type 0} (refusal : ℕ) (xs b : List X) (r : Result ℕ OutputError) (answered : reply_of r ≡ output refusal xs b) where
  -- what comes along with an answer to a call that is refused: nothing
  no_size : ¬ (refusal ≡ 0) → (reply_of r).size ≡ None
  unfolding output
  no_size d = let so : output refusal xs b ≡ refused refusal = rw (ne_eqb refusal 0 d) in ap (λ (x : Reply). x.size) (answered ∙ so)

  pub written_unrefused : (k : ℕ) → r ≡ Ok k → refusal ≡ 0
  unfolding reply_of
  written_unrefused k e = by_cases (ℕ_discrete refusal 0) (λ z. z) (λ d. clash k (sym (no_size d) ∙ ap (λ (x : Result ℕ OutputError). (reply_of x).size) e))

  pub short_unrefused : (k : ℕ) → r ≡ Err (OutputError.TooShort k) → refusal ≡ 0
  unfolding reply_of
  short_unrefused k e = by_cases (ℕ_discrete refusal 0) (λ z. z) (λ d. clash k (sym (no_size d) ∙ ap (λ (x : Result ℕ OutputError). (reply_of x).size) e))

  pub refused_not : (k : Refusal) → r ≡ Err (OutputError.Refused k) → ¬ (refusal ≡ 0)
  unfolding reply_of output
  refused_not k e z =
      let so : output refusal xs b ≡ (if leb (length xs) (length b) then written (length xs) else needed (length xs)) = rw z in
      go (leb (length xs) (length b)) (ap reply_of (sym e) ∙ answered ∙ so)
    where
      go : (c : Bool) → refused (number_of k) ≡ (if c then written (length xs) else needed (length xs)) → ⊥
      go true q = clash (length xs) (ap (λ (x : Reply). x.size) q)
      go false q = clash (length xs) (ap (λ (x : Reply). x.size) q)

  -- whether there was room, by the answer to a call that is not refused
  module _ (free : refusal ≡ 0) where
    by_room : (c : Bool) → leb (length xs) (length b) ≡ c → reply_of r ≡ (if c then written (length xs) else needed (length xs))
    unfolding output
    by_room c e = answered ∙ rw (free, e)

    pub written_fits : (k : ℕ) → r ≡ Ok k → length xs ≤ length b
    unfolding reply_of
    written_fits k e = go (leb (length xs) (length b)) refl
      where
        go : (c : Bool) → leb (length xs) (length b) ≡ c → length xs ≤ length b
        go true f = leb-true (length xs) (length b) f
        go false f = let q : ◌≡◌ {A = ℕ} 0 13 = ap (λ (x : Reply). x.number) (ap reply_of (sym e) ∙ by_room false f) in absurd (omega (arith, q))

    pub short_lacks : (k : ℕ) → r ≡ Err (OutputError.TooShort k) → length b < length xs
    unfolding reply_of
    short_lacks k e = go (leb (length xs) (length b)) refl
      where
        go : (c : Bool) → leb (length xs) (length b) ≡ c → length b < length xs
        go true f = let q : ◌≡◌ {A = ℕ} 13 0 = ap (λ (x : Reply). x.number) (ap reply_of (sym e) ∙ by_room true f) in absurd (omega (arith, q))
        go false f = leb-false (length xs) (length b) f

-- a call that is not refused, of numbers that there is room for
module _ {X : Type 0} (refusal : ℕ) (xs b : List X) (free : refusal ≡ 0) (fits : length xs ≤ length b) where
  pub written_whole : take (length xs) (output_after refusal xs b) ≡ xs
  written_whole = rw free (ap (take (length xs)) (sym (filled xs b (length xs) refl fits).1 ∙ put_whole xs b fits) ∙ take-append_seam xs (drop (length xs) b))

  module _ (r : Result ℕ OutputError) (answered : reply_of r ≡ output refusal xs b) where
    is_written : r ≡ Ok (length xs)
    unfolding reply_of
    is_written = written_alone r (length xs) (answered ∙ rw free (sym (filled xs b (length xs) refl fits).0))

    pub written_many : (k : ℕ) → r ≡ Ok k → k ≡ length xs
    written_many k e = let q : ◌≡◌ {A = Result ℕ OutputError} (Ok k) (Ok (length xs)) = sym e ∙ is_written in cc

    pub never_refused {ℓ} : {P : Type ℓ} (k : OutputError) → r ≡ Err k → P
    never_refused k e = let q : ◌≡◌ {A = Result ℕ OutputError} (Err k) (Ok (length xs)) = sym e ∙ is_written in cc

-- a text of k bytes, for which a buffer has room, stands before what that holds behind them
pub in_front : (xs b : List ℕ) (k : ℕ) → k ≡ length xs → k ≤ length b → (reply_of (Ok k) ≡ output 0 xs b) × (xs ++ drop k b ≡ output_after 0 xs b)
in_front xs b k many h =
    let x = filled xs b k many h in
    (x.0, ap (λ (j : ℕ). xs ++ drop j b) many ∙ sym (put_whole xs b (omega (arith, many, h))) ∙ x.1)

-- a call that puts a text into a buffer with room for any; or counts first, and then leaves the buffer or puts the text
module _ (xs b : List ℕ) (most : ℕ) where
  abbrev Answers : Result ℕ OutputError → List ℕ → Type 0
  Answers r later = (reply_of r ≡ output 0 xs b) × (later ≡ output_after 0 xs b)

  pub put_at_once : (r : ℕ) (later : List ℕ) → Puts 0 xs b r later most → most ≤ length b → Answers (Ok r) later
  put_at_once r later w h = let x = filled xs b r (omega (arith, w.0)) (omega (arith, w.2, h)) in (x.0, w.1 ∙ x.1)

  -- so many bytes were counted in another buffer
  module _ (c d : List ℕ) (needed : ℕ) (counted : Puts 0 xs c needed d most) where
    pub left_short : length b < needed → Answers (Err (OutputError.TooShort needed)) b
    left_short h = short_of xs b needed (omega (arith, counted.0)) h

    pub put_counted : (r : ℕ) (later : List ℕ) → needed ≤ length b → Puts 0 xs b r later most → Answers (Ok needed) later
    put_counted r later h w = let x = filled xs b needed (omega (arith, counted.0)) h in (x.0, w.1 ∙ x.1)

    -- the other buffer is a draft that has room for the text: its head is the text
    head_is : needed ≤ length c → take needed d ≡ xs
    head_is h = ap (take needed) counted.1 ∙ draft_holds xs c needed counted.0 h

    -- and is copied
    pub copied : needed ≤ length c → needed ≤ length b → Answers (Ok needed) (take needed d ++ drop needed b)
    copied h l =
        let x = in_front xs b needed (omega (arith, counted.0)) l in
        (x.0, ap (λ (k : List ℕ). k ++ drop needed b) (head_is h) ∙ x.1)

    -- or is handed over
    pub handed : needed ≤ length c → (r : Result ℕ OutputError) (later : List ℕ) → (reply_of r ≡ output 0 (take needed d) b) × (later ≡ output_after 0 (take needed d) b)
        → Answers r later
    handed h r later a = rw (← head_is h) a
