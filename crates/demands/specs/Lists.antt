-- The lists of findings that the calls form. Document 01, "Findings": "Each is four numbers .. listed rising"; "A
-- pair's (unordered)". Of any network, areas and bytes, by the definitions that the calls' contracts cite. Nothing here
-- is proved. Assumes nothing.
use Rattle.std.specs.Prelude.{ℕ, ◌*◌, ◌≡◌, List, T, length}
use Rattle.base.specs.Lists.{each_two, below}
use Rattle.timetable.specs.Findings.{numbers, findings_in}
use Rattle.timetable.specs.Outputs.{output, output_after}
use Rattle.findings.specs.Lists.{sheet_list, area_list, two_list, sheet_list_refusal, area_list_refusal, two_list_refusal}
use Rattle.demands.specs.Types.{Area, Network}

-- a list of numbers is a list of findings, four numbers each, strictly rising
pub record Rises (l : List ℕ) : Type 0 where
  pub by_four : length l ≡ 4 * length (findings_in l)
  pub rising : T (each_two (λ f g. below (numbers f) (numbers g)) (findings_in l))

-- every list that a call forms: where neither its network, its areas nor its sheets are refused
pub record ListsRise : Type 0 where
  pub whole : (n : Network) (sheet : List ℕ) → sheet_list_refusal n sheet ≡ 0 → Rises (sheet_list n sheet)
  pub of_area : (n : Network) (sheet : List ℕ) (a : Area) → area_list_refusal n sheet a ≡ 0 → Rises (area_list n sheet a)
  pub of_pair : (n : Network) (first second : List ℕ) (a b : Area) → two_list_refusal n first second a b ≡ 0 → Rises (two_list n first second a b)

-- the call on two areas with areas and sheets exchanged, on every input: the same answer, and the same bytes of its
-- buffer
pub record Unordered (n : Network) (first second : List ℕ) (a b : Area) (out : List ℕ) : Type 0 where
  pub same_answer : output (two_list_refusal n first second a b) (two_list n first second a b) out
      ≡ output (two_list_refusal n second first b a) (two_list n second first b a) out
  pub same_list : output_after (two_list_refusal n first second a b) (two_list n first second a b) out
      ≡ output_after (two_list_refusal n second first b a) (two_list n second first b a) out

abbrev pub PairsAreUnordered : Type 0
PairsAreUnordered = (n : Network) (first second : List ℕ) (a b : Area) (out : List ℕ) → Unordered n first second a b out
