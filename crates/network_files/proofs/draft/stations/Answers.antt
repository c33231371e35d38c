-- `network_files::draft::stations` meets its contract. The loop's invariant: the rows read stand in the first places,
-- and the list is those rows and then what is left. Assumes nothing.
use Prim.Native.Nat.{ℕ, suc, ◌+◌, ◌-◌, ◌<◌, ◌≤◌}
use mathlib.Core.Path.{◌≡◌, sym, ◌∙◌, ap}
use mathlib.Core.List.{List, [], ◌∷◌}
use native.Mathlib.Omega.{arith}
use lib.ListN.{set}
use Rattle.network.specs.Networks.{blank_station}
use Rattle.network.specs.declared.StationRow.{StationRow}
use Rattle.timetable.specs.Formats.{accepted, refused, read}
use Rattle.timetable.specs.NetworkFile.{station_entry, station_floor, stations_format}
use Rattle.fields.specs.between.Answers.{padded}
use Rattle.base.specs.RefusalNumbers.{number_of}
use Rattle.network_files.proofs.DraftLaws.{tells_refused}
use Rattle.network_files.specs.Answers.{StationsOf}
use Rattle.fields.proofs.ReadLaws.{prefixed, start, turn, stop, over, padded_next, entries_next, entries_stop, entries_over}
use Rattle.network_files.proofs.draft.stations.Goals as goal
use Rattle.network_files.proofs.draft.stations.Invariants.{left_at}

module _ (file : List ℕ) (n i before place : ℕ) where
  taken : i < n → (r : StationRow) (next : ℕ) → read (station_entry (before ∷ [])) file place ≡ accepted r next
      → left_at file (n - i) before place ≡ prefixed (r ∷ []) (left_at file (n - (i + 1)) r.station.0 next)
  unfolding station_floor
  taken h r next e =
      let m : n - i ≡ suc (n - (i + 1)) = omega arith in
      rw m (entries_next station_entry station_floor (before ∷ []) file place (n - (i + 1)) r next e)

  stopped : i < n → (k p : ℕ) → read (station_entry (before ∷ [])) file place ≡ refused k p → left_at file (n - i) before place ≡ refused k p
  stopped h k p e =
      let m : n - i ≡ suc (n - (i + 1)) = omega arith in
      rw m (entries_stop station_entry station_floor (before ∷ []) file place (n - (i + 1)) k p e)

  ended : n ≤ i → left_at file (n - i) before place ≡ accepted [] place
  ended h = let m : n - i ≡ 0 = omega arith in rw m (entries_over station_entry station_floor (before ∷ []) file place)

pub loop-i-init : goal.loop-i-init
unfolding padded start station_floor
loop-i-init c =
    let b = c.empty_station-rows.ensures in
    let m : c.args.count - 0 ≡ c.args.count = omega arith in
    (start _ _ (rw m), rw b)

pub returns-in_err-row : goal.returns-in_err-row
unfolding stations_format
returns-in_err-row c =
    let s = c.args in
    let l = c.loop-i in
    let e = c.in_err-row.field-0.0 in
    let q = stopped s.file.now s.count l.i l.before l.place (omega arith) (number_of e.refusal) e.place (sym c.in_err-row.ensures) in
    tells_refused StationsOf c.from_residual.result _ e c.from_residual.ensures.1 (stop _ _ _ l.invariant.0 (number_of e.refusal) e.place q)

pub loop-i-preserved : goal.loop-i-preserved
unfolding turn
loop-i-preserved c =
    let s = c.args in
    let l = c.loop-i in
    let r = c.in_ok-row.row in
    let q = taken s.file.now s.count l.i l.before l.place (omega arith) r c.in_ok-row.next (sym c.in_ok-row.ensures) in
    let f = l.invariant.0 in
    (turn _ _ _ f r _ q, ap (λ (v : List StationRow). set v l.i r) l.invariant.1 ∙ padded_next 16 blank_station f.elements l.i r f.many (omega (arith, c.requires)))

pub returns : goal.returns
unfolding stations_format
returns c =
    let s = c.args in
    let l = c.loop-i in
    let f = l.invariant.0 in
    let q = ended s.file.now s.count l.i l.before l.place (omega arith) in
    (f.elements, over _ _ _ f l.place q, l.invariant.1)
