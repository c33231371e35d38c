-- Demand 3, put together: the reordered edits on the division are the reordered edits on the whole (same_order), which
-- are those of the first order (any_order); the central machine leaves a whole timetable (run_whole), so that merging
-- its division gives it back (round_trip) and its findings are shared out (findings_shared). The areas of a good
-- network are a grouping (areas_group). Assumes nothing.
use mathlib.Core.Path.{◌≡◌, ◌∙◌, ap}
use Rattle.base.specs.Runs.{run}
use Rattle.timetable.specs.Machine.{Timetable, after}
use Rattle.timetable.specs.Groups.{six, areas, divide, merge, divided_after}
use Rattle.timetable.specs.Good.{Whole}
use Rattle.theory.specs.Reordering.{along}
use Rattle.theory.specs.Statements.{AnyOrder, SameOrder, Findings, DemandOfGroups, DemandOfAreas}
use Rattle.theory.proofs.Ordered.{any_order, same_order, round_trip, areas_group}
use Rattle.theory.proofs.Shared.{findings_shared}
use Rattle.theory.proofs.Kept.{run_whole}

pub demand_of_groups : DemandOfGroups
demand_of_groups n good γ gs G m w es ps R =
    let there : AnyOrder n m es ps = any_order n γ m es ps R in
    let parts : SameOrder n γ m (along es ps) = same_order n γ gs G m (along es ps) in
    let last : Timetable = run (after n) es m in
    let whole : Whole n last = run_whole n es m w in
    let sheets : run (divided_after n γ) (along es ps) (divide γ m) ≡ divide γ last = parts.same_parts ∙ ap (divide γ) there.same_timetable in
    let shared : Findings n γ gs last = findings_shared n good γ gs G last whole in
    record {
      same_answers = parts.same_answers ∙ there.same_answers;
      same_sheets = sheets;
      same_merged = ap (merge γ) sheets ∙ (round_trip n γ gs G).merged_back last whole;
      same_findings = rw sheets shared.exactly_once;
      no_other_finding = rw sheets shared.no_other;
    }

pub demand_of_areas : DemandOfAreas
demand_of_areas n good = demand_of_groups n good (areas n) six (areas_group n good)
