-- No record before index i passes the test.
use Rattle.std.proofs.Common.{◌≡◌, ℕ, Bool, List, Bor}
use Rattle.page.proofs.SlotLaws.{Searched}
use Rattle.page.proofs.slots.position.Given as goal

abbrev pub invariant-loop-i : goal.invariant-loop-i
invariant-loop-i g l = (p : List ℕ → Bool) → ((x : Bor (List ℕ)) (b : Bool) → goal.F-post g l.test x b → b ≡ p x.now) → Searched p l.n l.slots l.i
