-- What is promised of a recheck, of the calls' bytes. Document 02, W5: "for every whole timetable or area's sheet, its
-- own list and every accepted edit, the updated list is the list worked out from the new sheet, and .. findings
-- elsewhere are those of the old list. Given some other list (3 unless it rises), the result is that list's entries
-- elsewhere together with the redone ones." By the definitions that the contracts of the edits, of the lists of
-- findings and of the rechecks cite. Nothing here is proved. Assumes nothing.
use Rattle.std.specs.Prelude.{ℕ, ◌+◌, ◌≡◌, List, T, length}
use Rattle.base.specs.Lists.{keep}
use Rattle.railway.specs.Ranges.{area_ok}
use Rattle.network.specs.Networks.{network_refusal, area_of}
use Rattle.timetable.specs.Findings.{findings, group_findings, findings_in}
use Rattle.timetable.specs.Recheck.{stale, list_rises}
use Rattle.theory.specs.Statements.{times_listed}
use Rattle.theory.specs.Rechecks.{elsewhere}
use Rattle.sheet.specs.Sheets.{decode_sheet, good_division, area_part}
use Rattle.machine.specs.Calls.{sheet_answer, sheet_after, division_answer, division_after}
use Rattle.findings.specs.Lists.{sheet_list, area_list}
use Rattle.recheck.specs.Rechecks.{recheck_refusal, recheck_list, area_recheck_refusal, area_recheck_list}
use Rattle.demands.specs.Types.{Area, Edit, Network, Finding}

-- a call that nothing refuses, given the list before, writes the list after; elsewhere the two are the same
pub record Rechecked (n : Network) (e : Edit) (refused : ℕ) (written old new : List ℕ) : Type 0 where
  pub accepted : refused ≡ 0
  pub same_list : written ≡ new
  pub same_elsewhere : elsewhere n e (findings_in new) ≡ elsewhere n e (findings_in old)

-- on a sheet: every one, and every edit that the call accepts on it
abbrev pub SheetsRecheck : Type 0
SheetsRecheck = (n : Network) (e : Edit) (sheet : List ℕ) → (sheet_answer n e sheet).refusal ≡ 0
    → Rechecked n e (recheck_refusal n e (sheet_after n e sheet) (sheet_list n sheet)) (recheck_list n e (sheet_after n e sheet) (sheet_list n sheet))
    (sheet_list n sheet) (sheet_list n (sheet_after n e sheet))

-- on the sheet of each area of a good division, whether the edit names the area or not
abbrev pub AreasRecheck : Type 0
AreasRecheck = (n : Network) → network_refusal n ≡ 0 → (division : List ℕ) → length division ≡ 49152 → T (good_division n division)
    → (e : Edit) → (division_answer n e division).refusal ≡ 0 → (a : Area) → T (area_ok a)
    → Rechecked n e (area_recheck_refusal n e a (area_part (division_after n e division) a) (area_list n (area_part division a) a))
    (area_recheck_list n e a (area_part (division_after n e division) a) (area_list n (area_part division a) a))
    (area_list n (area_part division a) a) (area_list n (area_part (division_after n e division) a) a)

-- some other list: what is written rises, and has each finding as often as the list elsewhere and the redone ones have
pub record Joined (n : Network) (e : Edit) (list : List ℕ) (new : List Finding) (written : List ℕ) : Type 0 where
  pub rises : T (list_rises written)
  pub entries : (f : Finding) → times_listed f (findings_in written) ≡ times_listed f (elsewhere n e (findings_in list)) + times_listed f (keep (stale n e) new)

-- of every call that nothing refuses but, it may be, a short buffer
pub record OtherListsRecheck : Type 0 where
  pub sheets : (n : Network) (e : Edit) (sheet list : List ℕ) → recheck_refusal n e sheet list ≡ 0
      → Joined n e list (findings n (decode_sheet sheet)) (recheck_list n e sheet list)
  pub areas : (n : Network) (e : Edit) (a : Area) (sheet list : List ℕ) → area_recheck_refusal n e a sheet list ≡ 0
      → Joined n e list (group_findings n (area_of n) (decode_sheet sheet) a.0) (area_recheck_list n e a sheet list)
