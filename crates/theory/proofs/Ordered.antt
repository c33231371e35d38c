-- The promises about the order and the division of edits: every edit is local (the laws of Locality), any order is the
-- first (Exchange, as edits that name no common group name no common station), edits on a division are the edits on the
-- whole, divisions round-trip (Divided), and a good network's areas are a grouping, since each of its rows has an area
-- of 1..6. Assumes nothing.
use mathlib.Core.Path.{◌≡◌, refl, sym}
use mathlib.Core.Bool.{Bool, true, false, ◌&&◌, ◌||◌}
use mathlib.Core.List.{List, [], ◌∷◌, map}
use Rattle.std.specs.Prelude.{Some}
use Prim.Native.Nat.{ℕ, zero, suc}
use native.Mathlib.Omega.{arith}
use lib.Dec.{T, eqb, ltb, leb, leb→le}
use borrow.Author.Tests.{lt-ltb}
use Rattle.base.specs.Choice.{◌if◌else◌}
use Rattle.std.specs.Prelude.{if◌then◌else◌}
use Rattle.base.specs.Lists.{any, every, count, first, within}
use Rattle.base.proofs.Tests.{and_l, and_r, eqb_turned}
use Rattle.railway.specs.Ranges.{same_station, area_ok, station_ok}
use Rattle.network.specs.Networks.{station_rows, stations_of, station_row_ok, listed, station_row, row_area, area_of}
use Rattle.network.proofs.NetworkLaws.{network_facts}
use Rattle.network.specs.declared.StationRow.{StationRow}
use Rattle.timetable.specs.Machine.{answer, after}
use Rattle.timetable.specs.Tables.{empty}
use Rattle.timetable.specs.Groups.{six, names, names_group, merge, gather}
use Rattle.timetable.proofs.Locality.{same_answer, same_change, others_kept, names_none}
use Rattle.theory.specs.Types.{Station}
use Rattle.theory.specs.Statements.{EveryEditIsLocal, AnyOrderIsTheFirst, DividedIsWhole, DivisionsRoundTrip, CentresMerge, AreasGroup}
use Rattle.theory.proofs.Exchange.{same_answers, same_state}
use Rattle.theory.proofs.Split.{merged_by_centres}
use Rattle.theory.proofs.Divided.{local_step, groups_apart, run_divided, answers_divided, merged_back, divided_back, divided_good, merged_whole}

pub local : EveryEditIsLocal
local n e = record {
  same_answer = same_answer n e;
  same_change = same_change n e;
  others_kept = others_kept n e;
  names_none = names_none n e;
}

pub any_order : AnyOrderIsTheFirst
any_order n γ m es ps R = record {
  same_answers = same_answers (names n) (after n) (answer n) (local_step n) (names_group n γ) (groups_apart n γ) es ps m R;
  same_timetable = same_state (names n) (after n) (answer n) (local_step n) (names_group n γ) (groups_apart n γ) es ps m R;
}

pub same_order : DividedIsWhole
same_order n γ gs G m es = record {
  same_answers = answers_divided n γ G.in_none es m;
  same_parts = run_divided n γ G.in_none es m;
}

pub round_trip : DivisionsRoundTrip
round_trip n γ gs G = record {
  merged_back = merged_back n γ G.in_none;
  divided_back = divided_back n γ G.in_none;
  divided_good = divided_good n γ G.in_none;
  merged_whole = merged_whole n γ G.in_none;
}

pub centres_merge : CentresMerge
unfolding merge gather
centres_merge γ c whole d = merged_by_centres empty γ c whole d

-- the areas

-- a station with a row has an area of 1..6, another has 0
abbrev Placed : Bool → ℕ → Type 0
Placed true x = T (within 1 6 x)
Placed false x = x ≡ 0

row_placed : (k : Station) (rows : List StationRow) → T (every station_row_ok rows) → Placed (any (same_station k) (map (λ r. r.station) rows)) (row_area (first (λ q. same_station q.station k) rows))
unfolding every any first station_row_ok
row_placed k [] ok = refl
row_placed k (r ∷ rows) ok =
    rw (eqb_turned k.0 r.station.0) (go (same_station r.station k) (row_placed k rows (and_r (station_row_ok r) (every station_row_ok rows) ok)))
  where
    go : (b : Bool) → Placed (any (same_station k) (map (λ q. q.station) rows)) (row_area (first (λ q. same_station q.station k) rows))
        → Placed (b || any (same_station k) (map (λ q. q.station) rows))
        (row_area (if b then Some r else first (λ q. same_station q.station k) rows))
    go true later =
        and_l (area_ok r.area) (within 1 8 r.tracks)
        (and_r (station_ok r.station) (area_ok r.area && within 1 8 r.tracks) (and_l (station_row_ok r) (every station_row_ok rows) ok))
    go false later = later

placed_within : (b : Bool) (x : ℕ) → Placed b x → T b → T (within 1 6 x)
placed_within true x p t = p
placed_within false x p t = absurd t

placed_test : (b : Bool) (x : ℕ) → Placed b x → b ≡ ltb 0 x
placed_test true x p = sym (lt-ltb 0 x (omega (arith, leb→le 1 x (and_l (leb 1 x) (leb x 6) p))))
placed_test false x p = rw p

one_of_six : (x : ℕ) → T (within 1 6 x) → count (eqb x) six ≡ 1
unfolding count
one_of_six zero t = absurd t
one_of_six (suc zero) t = refl
one_of_six (suc (suc zero)) t = refl
one_of_six (suc (suc (suc zero))) t = refl
one_of_six (suc (suc (suc (suc zero)))) t = refl
one_of_six (suc (suc (suc (suc (suc zero))))) t = refl
one_of_six (suc (suc (suc (suc (suc (suc zero)))))) t = refl
one_of_six (suc (suc (suc (suc (suc (suc (suc x))))))) t =
    let y = suc (suc (suc (suc (suc (suc (suc x)))))) in
    absurd (omega (arith, leb→le y 6 (and_r (leb 1 y) (leb y 6) t)))

pub areas_group : AreasGroup
unfolding listed stations_of station_row area_of
areas_group n h =
    let placed : (k : Station) → Placed (listed n k) (area_of n k) = λ k. row_placed k (station_rows n) (network_facts n h).station_rows_ok in
    record {
      in_one = λ k t. omega (arith, one_of_six (area_of n k) (placed_within (listed n k) (area_of n k) (placed k) t));
      in_none = λ k. placed_test (listed n k) (area_of n k) (placed k);
    }
