-- The proof of the cycle of calls {arrive, depart}. `arrive` calls `depart` with one visit less left, `depart` calls
-- `arrive` with as many, so the measures are twice the visits left, and one more for `depart`. Each return is one law
-- of the rows from an arrival or a departure on, and rows one behind the other are written one after the other. Assumes
-- nothing.
use mathlib.Core.Path.{sym, ap, ◌∙◌}
use mathlib.Core.List.{List}
use native.Mathlib.Omega.{arith}
use lib.IntN.{ℤ}
use lib.ListN.{length}
use Rattle.timetable.specs.Outputs.{put}
use Rattle.projection.specs.Numbers.{arrival_numbers}
use Rattle.projection.proofs.JourneyLaws.{arrival_none, arrival_missing, arrival_known}
use Rattle.projection.proofs.JourneyLaws.{departure_last, departure_on, departure_ends, none_put, row_put}
use Prim.Native.Nat.{ℕ, ◌+◌}
use Rattle.projection.proofs.journey.+arrive_depart.Goals as goal

pub arrive-returns-then-left-eq0 : goal.arrive-returns-then-left-eq0
arrive-returns-then-left-eq0 t c =
    let s = c.args in
    let x = none_put s.at _ s.out.now (arrival_none s.sheet.now s.t s.s s.a s.left c.if-left-eq0.true) in
    (x.0, x.1, omega arith)

pub arrive-returns-in-None : goal.arrive-returns-in-None
arrive-returns-in-None t c =
    let s = c.args in
    let x = none_put s.at _ s.out.now (arrival_missing s.sheet.now s.t s.s s.a s.left c.if-left-eq0.false (sym c.visit_at.ensures ∙ c.in-None.is)) in
    (x.0, x.1, omega arith)

pub arrive-returns-in-Some : goal.arrive-returns-in-Some
arrive-returns-in-Some t c =
    let s = c.args in
    let r = c.row_of-r in
    let d = c.depart in
    let known = arrival_known s.sheet.now s.t s.s s.a s.left c.if-left-eq0.false _ (sym c.visit_at.ensures ∙ c.in-Some.is) _ c.expected_arrival.ensures.0 r.result r.ensures.0 in
    let x = row_put s.at r.result _ _ s.out.now _ d.result known d.ensures.0 (d.ensures.1 ∙ ap (put (s.at + 4) _) c.put_row.ensures) in
    (x.0, x.1, omega (arith, d.ensures.2, c.if-left-eq0.false))

pub depart-returns-then-is_answered : goal.depart-returns-then-is_answered
depart-returns-then-is_answered t c =
    let s = c.args in
    let o = c.in-To.o in
    let a = c.arrive in
    let on =
    departure_on s.left s.sheet.now s.t s.s s.v s.d o c.in-To.is (sym c.is_answered.ensures ∙ c.if-is_answered.true)
    ∙ ap (λ (j : ℕ). arrival_numbers s.left s.sheet.now s.t o.station (s.d + j)) (sym c.from.ensures) in
    (a.ensures.0 ∙ sym (ap length on), a.ensures.1 ∙ sym (ap (λ (xs : List ℤ). put s.at xs s.out.now) on), a.ensures.2)

pub depart-returns-in-Nothing : goal.depart-returns-in-Nothing
depart-returns-in-Nothing t c =
    let s = c.args in
    let x = none_put s.at _ s.out.now (departure_last s.left s.sheet.now s.t s.s s.v s.d c.in-Nothing.is) in
    (x.0, x.1, omega arith)

pub depart-returns-else-is_answered : goal.depart-returns-else-is_answered
depart-returns-else-is_answered t c =
    let s = c.args in
    let o = c.in-To.o in
    let x = none_put s.at _ s.out.now (departure_ends s.left s.sheet.now s.t s.s s.v s.d o c.in-To.is (sym c.is_answered.ensures ∙ c.if-is_answered.false)) in
    (x.0, x.1, omega arith)
