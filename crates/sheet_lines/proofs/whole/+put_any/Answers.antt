-- The proof of the cycle of calls {put_any}: the array has room for any list, so the call of itself is never reached.
-- Assumes nothing.
use Prim.Native.Nat.{ℕ}
use lib.ListN.{length-replicate}
use Rattle.builder.specs.between.Builder.{list_most}
use Rattle.sheet_lines.proofs.FindingLines.{lines_put, none_put, room_for_any}
use Rattle.sheet_lines.proofs.whole.+put_any.Goals as goal

pub put_any-requires : goal.put_any-requires
put_any-requires t c =
    let s = c.args in
    let f = c.put_listed in
    let none = none_put s.at s.n.now s.sheet.now _ s.out.now _ f.result f.ensures c.in-None.is in
    absurd (room_for_any s.n.now s.sheet.now _ (length-replicate {A = ℕ} list_most 0) none.0 none.1)

pub returns-in-Some : goal.returns-in-Some
returns-in-Some t c =
    let s = c.args in
    let f = c.put_listed in
    lines_put s.at s.n.now s.sheet.now _ s.out.now _ f.result f.ensures _ c.in-Some.is

pub returns-in-None : goal.returns-in-None
returns-in-None t c =
    let s = c.args in
    let f = c.put_listed in
    let none = none_put s.at s.n.now s.sheet.now _ s.out.now _ f.result f.ensures c.in-None.is in
    absurd (room_for_any s.n.now s.sheet.now _ (length-replicate {A = ℕ} list_most 0) none.0 none.1)
