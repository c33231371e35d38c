-- `network_files::closures::closures` meets its contract. The loop's invariant: the rows read stand in the first
-- places, the list is those rows and then what is left, and the two faults are those of the rows read. Assumes nothing.
use Prim.Native.Nat.{ℕ, suc, ◌+◌, ◌-◌, ◌<◌, ◌≤◌}
use mathlib.Core.Path.{◌≡◌, refl, sym, ◌∙◌, ap, ap₂}
use mathlib.Core.Bool.{Bool}
use mathlib.Core.List.{List, [], ◌∷◌}
use native.Mathlib.Omega.{arith}
use lib.ListN.{length-map, set}
use Rattle.base.specs.Lists.{first}
use Rattle.network.specs.declared.Closure.{Closure}
use Rattle.network.specs.Networks.{blank_closure, ends_after, line_listed}
use Rattle.timetable.specs.Formats.{accepted, refused, read, Placed}
use Rattle.timetable.specs.NetworkFile.{fault_of, closure_fields, closure_entry, closure_floor, closures_format}
use Rattle.timetable.specs.declared.Fault.{Fault}
use Rattle.fields.specs.between.Answers.{padded}
use Rattle.base.specs.RefusalNumbers.{number_of}
use Rattle.network_files.proofs.DraftLaws.{tells_refused}
use Rattle.network_files.specs.Answers.{ClosuresOf}
use Rattle.fields.proofs.ReadLaws.{prefixed, start, turn, stop, over, padded_next, map_snoc, entries_next, entries_stop, entries_over}
use Rattle.fields.proofs.EntryLaws.{placed_some, placed_none}
use Rattle.network_files.specs.between.Faults.{fault_next}
use Rattle.network_files.proofs.DraftLaws.{fault_snoc}
use Rattle.network_files.proofs.closures.closures.Goals as goal
use Rattle.network_files.proofs.closures.closures.Invariants.{left_at, rows_of}

module _ (file : List ℕ) (n i l s place : ℕ) where
  taken : i < n → (r : Closure) (next : ℕ) → read (closure_fields (l ∷ s ∷ [])) file place ≡ accepted r next
      → left_at file (n - i) l s place ≡ prefixed (record { place = place; entry = r } ∷ []) (left_at file (n - (i + 1)) r.line.0 r.start.0 next)
  unfolding closure_floor closure_entry
  taken h r next e =
      let m : n - i ≡ suc (n - (i + 1)) = omega arith in
      rw m (entries_next closure_entry closure_floor (l ∷ s ∷ []) file place (n - (i + 1)) (record { place = place; entry = r }) next (placed_some (closure_fields (l ∷ s ∷ [])) file place r next e))

  stopped : i < n → (k p : ℕ) → read (closure_fields (l ∷ s ∷ [])) file place ≡ refused k p → left_at file (n - i) l s place ≡ refused k p
  unfolding closure_entry
  stopped h k p e =
      let m : n - i ≡ suc (n - (i + 1)) = omega arith in
      rw m (entries_stop closure_entry closure_floor (l ∷ s ∷ []) file place (n - (i + 1)) k p (placed_none (closure_fields (l ∷ s ∷ [])) file place k p e))

  ended : n ≤ i → left_at file (n - i) l s place ≡ accepted [] place
  ended h = let m : n - i ≡ 0 = omega arith in rw m (entries_over closure_entry closure_floor (l ∷ s ∷ []) file place)

pub loop-i-init : goal.loop-i-init
unfolding padded start fault_of first
loop-i-init c =
    let b = c.empty_closure-rows.ensures in
    let m : c.args.count - 0 ≡ c.args.count = omega arith in
    (start _ _ (rw (m, c.empty_closure-before.ensures)), rw b, refl, refl)

pub returns-in_err-row : goal.returns-in_err-row
unfolding closures_format
returns-in_err-row c =
    let s = c.args in
    let l = c.loop-i in
    let e = c.in_err-row.field-0.0 in
    let q = stopped s.file.now s.count l.i l.before.line.0 l.before.start.0 l.place (omega arith) (number_of e.refusal) e.place (sym c.in_err-row.ensures) in
    tells_refused (ClosuresOf s.known.now) c.from_residual.result _ e c.from_residual.ensures.1 (stop _ _ _ l.invariant.0 (number_of e.refusal) e.place q)

pub loop-i-preserved : goal.loop-i-preserved
unfolding turn
loop-i-preserved c =
    let s = c.args in
    let l = c.loop-i in
    let r = c.in_ok-row.row in
    let q = taken s.file.now s.count l.i l.before.line.0 l.before.start.0 l.place (omega arith) r c.in_ok-row.next (sym c.in_ok-row.ensures) in
    let f = l.invariant.0 in
    let x : Placed Closure = record { place = l.place; entry = r } in (
      turn _ _ _ f x _ q,
      (ap (λ (v : List Closure). set v l.i r) l.invariant.1
          ∙ padded_next 32 blank_closure (rows_of f.elements) l.i r (length-map f.elements (λ (y : Placed Closure). y.entry) ∙ f.many) (omega (arith, c.requires))
          ∙ ap (padded 32 blank_closure) (sym (map_snoc (λ (y : Placed Closure). y.entry) f.elements x))),
      (c.next_fault-unended.ensures ∙ ap₂ (λ (b : Bool) (y : Fault). fault_next 14 b l.place y) c.ends_after.ensures l.invariant.2
          ∙ fault_snoc 14 (λ z. omega (arith, z)) ends_after f.elements x),
      (c.next_fault-unlisted.ensures ∙ ap₂ (λ (b : Bool) (y : Fault). fault_next 4 b l.place y) c.line_listed.ensures l.invariant.3
          ∙ fault_snoc 4 (λ z. omega (arith, z)) (λ (d : Closure). line_listed s.known.now d.line) f.elements x),
    )

pub returns : goal.returns
unfolding closures_format
returns c =
    let s = c.args in
    let l = c.loop-i in
    let f = l.invariant.0 in
    let q = ended s.file.now s.count l.i l.before.line.0 l.before.start.0 l.place (omega arith) in
    (f.elements, over _ _ _ f l.place q, (l.invariant.1, l.invariant.2, l.invariant.3))
