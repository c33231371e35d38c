-- What is promised of every list of edits, in the words of the demands, for the definitions of document 01. The proofs
-- are in proofs/; nothing here is proved. A reader needs: Reordering (beside this file), and of the crate timetable
-- Machine (the central machine), Groups (dividing, merging, edits on a division), Good (whole timetables), Findings and
-- Count (the tally). Groups of stations are the areas, or any other grouping.
--
-- The letters: n a network, m a timetable (of every station its table), e an edit, es a list of edits in their first
-- order, ps another order of it (a list of positions, counted from 0), γ the group of each station, gs the numbers of
-- the groups, d a division (of every group its part), k a station, f a finding. `T b` says that the test b passes.
-- `after n e m` is the timetable after the edit, `answer n e m` what the edit answers; `run (after n) es m` is the
-- timetable after all the edits, `answers (after n) (answer n) es m` the list of their answers. The same with
-- `divided_after` and `divided_answer` is the work on a division. A record collects what is promised together; of what
-- it is promised stands at the end of the file. Assumes nothing.
use Rattle.std.specs.Prelude.{◌≡◌, ℕ, ◌+◌, T, eqb, ltb}
use mathlib.Core.List.{List, ◌++◌, flat_map}
use Rattle.base.specs.Lists.{any, count, each_two, pairs, below, same}
use Rattle.base.specs.Runs.{run, answers}
use Rattle.network.specs.Networks.{network_refusal, listed}
use Rattle.timetable.specs.Machine.{Timetable, refusal, answer, after}
use Rattle.timetable.specs.Groups.{Grouping, areas, six, names, names_group, Divided, divide, merge, gather, divided_answer, divided_after, naming_none}
use Rattle.timetable.specs.Good.{Whole, GoodDivision}
use Rattle.timetable.specs.Findings.{findings, numbers, own_list, pair_list}
use Rattle.timetable.specs.Count.{zero_tally, raise_all, counts_in_full, visit_count}
use Rattle.theory.specs.Types.{Station, Edit, Network, Finding}
use Rattle.theory.specs.Reordering.{along, Reordering}

-- hypotheses

-- "A good network is one that 3 and 4 don't refuse."
abbrev pub GoodNetwork : Network → Type 0
GoodNetwork n = network_refusal n ≡ 0

-- γ groups the network's stations by the groups gs: a listed station is in just one of them, no other station is in
-- any. The number 0 stands for no group: a station has a number above 0 if it is listed, and only then.
pub record Grouped (n : Network) (γ : Grouping) (gs : List ℕ) : Type 0 where
  pub in_one : (k : Station) → T (listed n k) → count (eqb (γ k)) gs ≡ 1
  pub in_none : (k : Station) → listed n k ≡ ltb 0 (γ k)

-- 1. An edit reads and changes only the tables of the stations that it names; "one refused with 3 or 7 names none", nor
-- does one refused with 15. So two timetables that agree at those stations give the same answer and the same new tables
-- there, whatever they have elsewhere; and elsewhere nothing changes.
pub record Local (n : Network) (e : Edit) : Type 0 where
  pub same_answer : (m m' : Timetable) → ((k : Station) → T (names n e k) → m k ≡ m' k) → answer n e m ≡ answer n e m'
  pub same_change : (m m' : Timetable) → ((k : Station) → T (names n e k) → m k ≡ m' k) → (k : Station) → T (names n e k) → after n e m k ≡ after n e m' k
  pub others_kept : (m : Timetable) (k : Station) → ¬ T (names n e k) → after n e m k ≡ m k
  pub names_none : (m : Timetable) → T (naming_none (refusal n e m)) → (k : Station) → ¬ T (names n e k)

-- 2. Any order: the central machine takes the edits in the order ps instead. Each edit answers as it did in the first
-- order (the answers come in the new order, hence "along ps"), and the last timetable is the same.
pub record AnyOrder (n : Network) (m : Timetable) (es : List Edit) (ps : List ℕ) : Type 0 where
  pub same_answers : answers (after n) (answer n) (along es ps) m ≡ along (answers (after n) (answer n) es m) ps
  pub same_timetable : run (after n) (along es ps) m ≡ run (after n) es m

-- 3. Same order: an edit on a division sees the parts of the groups that it names, and every other station bare. The
-- answers are those of the central machine, and after any number of edits the division is that of the central machine's
-- timetable. The timetable may be any, whole or not.
pub record SameOrder (n : Network) (γ : Grouping) (m : Timetable) (es : List Edit) : Type 0 where
  pub same_answers : answers (divided_after n γ) (divided_answer n γ) es (divide γ m) ≡ answers (after n) (answer n) es m
  pub same_parts : run (divided_after n γ) es (divide γ m) ≡ divide γ (run (after n) es m)

-- 4. Merging a division gives the timetable back; dividing what was merged gives the division back. For whole
-- timetables and good divisions, that is, and dividing and merging lead from the ones to the others: nothing is lost on
-- the way, and nothing is invented.
pub record RoundTrip (n : Network) (γ : Grouping) : Type 0 where
  pub merged_back : (m : Timetable) → Whole n m → merge γ (divide γ m) ≡ m
  pub divided_back : (d : Divided) → GoodDivision n γ d → divide γ (merge γ d) ≡ d
  pub divided_good : (m : Timetable) → Whole n m → GoodDivision n γ (divide γ m)
  pub merged_whole : (d : Divided) → GoodDivision n γ d → Whole n (merge γ d)

-- 5. Findings. Two findings are the same if their four numbers are.

-- how often a finding stands in a list
unfoldable pub times_listed : Finding → List Finding → ℕ
times_listed f fs = count (λ g. same (numbers f) (numbers g)) fs

-- all the lists, each formed from the parts that it speaks of (timetable/specs/Findings.antt), one behind the other: of
-- the groups, and of their pairs, each pair once (for six areas 6 and 15 lists)
unfoldable pub all_lists : Network → Grouping → List ℕ → Divided → List Finding
all_lists n γ gs d = flat_map (own_list n γ d) gs ++ flat_map (pair_list n γ d) (pairs gs)

-- what the whole timetable's findings are to those lists
pub record Findings (n : Network) (γ : Grouping) (gs : List ℕ) (m : Timetable) : Type 0 where
  -- "listed rising", strictly
  pub rising : T (each_two (λ f g. below (numbers f) (numbers g)) (findings n m))
  -- "each finding exactly once among six areas and fifteen pairs"
  pub exactly_once : (f : Finding) → T (any (λ g. same (numbers f) (numbers g)) (findings n m)) → times_listed f (all_lists n γ gs (divide γ m)) ≡ 1
  -- and what stands in one of the lists is a finding of the whole timetable
  pub no_other : (f : Finding) → T (any (λ g. same (numbers f) (numbers g)) (all_lists n γ gs (divide γ m))) → T (any (λ g. same (numbers f) (numbers g)) (findings n m))

-- 6. An accepted edit leaves every table within the limits, in order, with values that an edit could carry: what was
-- whole stays whole. A refused edit leaves the timetable as it was.
pub record Kept (n : Network) (m : Timetable) (e : Edit) : Type 0 where
  pub whole : Whole n m → Whole n (after n e m)
  pub refused : ¬ (refusal n e m ≡ 0) → after n e m ≡ m

-- 7. "Over every list of edits that the tally counts in full, visits at the start plus added less removed are the
-- visits at the end." The tally starts at zero; written without subtraction, the removed visits stand on the side of
-- the end.
pub record Balanced (n : Network) (m : Timetable) (es : List Edit) : Type 0 where
  pub balance : T (counts_in_full zero_tally es (answers (after n) (answer n) es m))
      → visit_count n m + (raise_all zero_tally es (answers (after n) (answer n) es m)).added
      ≡ visit_count n (run (after n) es m) + (raise_all zero_tally es (answers (after n) (answer n) es m)).removed

-- 8. Demand 3, of a whole list of edits: on the left the edits reach the centre in the order ps and work on the
-- division; on the right the central machine takes them in their first order, on the undivided timetable.
pub record Demand3 (n : Network) (γ : Grouping) (gs : List ℕ) (m : Timetable) (es : List Edit) (ps : List ℕ) : Type 0 where
  -- "same answers", edit by edit
  pub same_answers : answers (divided_after n γ) (divided_answer n γ) (along es ps) (divide γ m) ≡ along (answers (after n) (answer n) es m) ps
  -- "same sheets": every group's part
  pub same_sheets : run (divided_after n γ) (along es ps) (divide γ m) ≡ divide γ (run (after n) es m)
  -- "same merged timetable"
  pub same_merged : merge γ (run (divided_after n γ) (along es ps) (divide γ m)) ≡ run (after n) es m
  -- "each finding exactly once among six areas and fifteen pairs", the lists formed from the division that the
  -- reordered edits leave
  pub same_findings : (f : Finding) → T (any (λ g. same (numbers f) (numbers g)) (findings n (run (after n) es m)))
      → times_listed f (all_lists n γ gs (run (divided_after n γ) (along es ps) (divide γ m))) ≡ 1
  pub no_other_finding : (f : Finding) → T (any (λ g. same (numbers f) (numbers g)) (all_lists n γ gs (run (divided_after n γ) (along es ps) (divide γ m))))
      → T (any (λ g. same (numbers f) (numbers g)) (findings n (run (after n) es m)))

-- The statements themselves: of which networks, timetables and lists of edits each of the promises above is made

-- every edit in every network, good or not
abbrev pub EveryEditIsLocal : Type 0
EveryEditIsLocal = (n : Network) (e : Edit) → Local n e

-- "the first order is one too": every list has a reordering along which it reads as it stands
abbrev pub FirstOrderIsOne : Type 0
FirstOrderIsOne = (n : Network) (γ : Grouping) (es : List Edit) → (ps : List ℕ) × Reordering (names_group n γ) es ps × (along es ps ≡ es)

-- every order in which two edits that name a common group keep theirs, whatever the groups are and wherever the
-- timetable starts
abbrev pub AnyOrderIsTheFirst : Type 0
AnyOrderIsTheFirst = (n : Network) (γ : Grouping) (m : Timetable) (es : List Edit) (ps : List ℕ) → Reordering (names_group n γ) es ps → AnyOrder n m es ps

-- every grouping of the stations, every timetable and every list of edits
abbrev pub DividedIsWhole : Type 0
DividedIsWhole = (n : Network) (γ : Grouping) (gs : List ℕ) → Grouped n γ gs → (m : Timetable) (es : List Edit) → SameOrder n γ m es

-- every grouping of the stations
abbrev pub DivisionsRoundTrip : Type 0
DivisionsRoundTrip = (n : Network) (γ : Grouping) (gs : List ℕ) → Grouped n γ gs → RoundTrip n γ

-- every grouping, and every way to put its groups together: c is the centre of each group, above 0 just where the
-- group's number is. What the centres collect of their groups' parts merges to the same timetable.
abbrev pub CentresMerge : Type 0
CentresMerge = (γ : Grouping) (c : ℕ → ℕ) → ((k : Station) → ltb 0 (c (γ k)) ≡ ltb 0 (γ k))
    → (d : Divided) → merge (λ k. c (γ k)) (λ x. gather γ (λ g. eqb (c g) x) d) ≡ merge γ d

-- in a good network, which lists no station twice, for every whole timetable, whose links lead to listed stations
abbrev pub FindingsAreShared : Type 0
FindingsAreShared = (n : Network) → GoodNetwork n → (γ : Grouping) (gs : List ℕ) → Grouped n γ gs → (m : Timetable) → Whole n m → Findings n γ gs m

-- every edit, also one of values out of range
abbrev pub WholeIsKept : Type 0
WholeIsKept = (n : Network) (m : Timetable) (e : Edit) → Kept n m e

-- in a good network, from every whole timetable, over every list of edits
abbrev pub TallyBalances : Type 0
TallyBalances = (n : Network) → GoodNetwork n → (m : Timetable) → Whole n m → (es : List Edit) → Balanced n m es

-- the areas of a good network are a grouping, so what is said of groups is said of them
abbrev pub AreasGroup : Type 0
AreasGroup = (n : Network) → GoodNetwork n → Grouped n (areas n) six

-- demand 3 for any grouping of the stations, and for the six areas: a good network, a whole timetable at the start, any
-- list of edits, and any reordering of it in which two edits that name a common group (area) keep their order
abbrev pub DemandOfGroups : Type 0
DemandOfGroups = (n : Network) → GoodNetwork n → (γ : Grouping) (gs : List ℕ) → Grouped n γ gs → (m : Timetable) → Whole n m
    → (es : List Edit) (ps : List ℕ) → Reordering (names_group n γ) es ps → Demand3 n γ gs m es ps

abbrev pub DemandOfAreas : Type 0
DemandOfAreas = (n : Network) → GoodNetwork n → (m : Timetable) → Whole n m
    → (es : List Edit) (ps : List ℕ) → Reordering (names_group n (areas n)) es ps → Demand3 n (areas n) six m es ps
