-- A draft that has room for a list holds it at its front once it was put. Assumes nothing.
use Prim.Native.Nat.{ℕ, ◌+◌, ◌≤◌}
use mathlib.Core.Path.{◌≡◌, ◌∙◌, ap}
use mathlib.Core.List.{List}
use native.Mathlib.Omega.{arith}
use lib.ListN.{length, take, drop}
use lib.Seq.{take-append_seam}
use Rattle.timetable.specs.Outputs.{put}
use Rattle.timetable.proofs.BuffersFilled.{put_whole}

pub draft_holds : {X : Type 0} (xs d : List X) (k : ℕ) → k ≡ 0 + length xs → k ≤ length d → take k (put 0 xs d) ≡ xs
draft_holds xs d k e h =
    let many : k ≡ length xs = omega (arith, e) in
    ap (λ (j : ℕ). take j (put 0 xs d)) many ∙ ap (take (length xs)) (put_whole xs d (omega (arith, many, h))) ∙ take-append_seam xs (drop (length xs) d)
