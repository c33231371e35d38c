-- What the calls of an edit answer, and what each lent buffer then holds: under a network, the edit's file, then the
-- call. Assumes nothing.
use Rattle.std.specs.Prelude.{ℕ, List, [], ◌∷◌, eqb, get_or}
use Rattle.std.specs.Prelude.{if◌then◌else◌}
use Rattle.network.specs.Networks.{area_of}
use Rattle.timetable.specs.Groups.{names_group}
use Rattle.timetable.specs.Count.{overfull, raise_refusal, raise}
use Rattle.actions.specs.Early.{early_refusal}
use Rattle.machine.specs.Calls.{division_answer, division_after, sheet_answer, sheet_after}
use Rattle.single_edit.specs.Reading.{read_one}
use Rattle.replies.specs.Replies.{sized, plain, placed, bits, of_answer, by_file}
use Rattle.edit_replies.specs.Types.{Edit, Network, Answer, Tally, Reply}

-- the areas that an edit names

-- what refuses it before any sheet is looked at, or the areas: "one refused with 3 or 7 names none", nor with 15
unfoldable pub named : Network → Edit → Reply
named n e = if eqb (early_refusal n e) 0 then sized 0 (bits (names_group n (area_of n) e)) else plain (early_refusal n e)

unfoldable pub named_under : Network → List ℕ → Reply
named_under n edit = by_file (read_one edit) (placed 2) (named n)

-- an edit on a division, and on one sheet of all stations

module _ (n : Network) (edit division : List ℕ) where
  unfoldable pub one_reply : Reply
  one_reply = by_file (read_one edit) (placed 2) (λ e. of_answer (division_answer n e division))

  unfoldable pub one_left : List ℕ
  one_left = by_file (read_one edit) (λ k p. division) (λ e. division_after n e division)

module _ (n : Network) (edit sheet : List ℕ) where
  unfoldable pub sheet_one_reply : Reply
  sheet_one_reply = by_file (read_one edit) (placed 2) (λ e. of_answer (sheet_answer n e sheet))

  unfoldable pub sheet_one_left : List ℕ
  sheet_one_left = by_file (read_one edit) (λ k p. sheet) (λ e. sheet_after n e sheet)

-- the tally, as four numbers

unfoldable pub tally_of : List ℕ → Tally
tally_of c = record { accepted = get_or c 0 0; refused = get_or c 1 0; added = get_or c 2 0; removed = get_or c 3 0 }

unfoldable pub numbers_of : Tally → List ℕ
numbers_of y = y.accepted ∷ y.refused ∷ y.added ∷ y.removed ∷ []

module _ (edit : List ℕ) (k removed : ℕ) (counts : List ℕ) where
  abbrev answer : Answer
  answer = record { refusal = k; removed = removed }

  -- 5, the edit's file, 3
  unfoldable pub raise_reply : Reply
  raise_reply = if overfull (tally_of counts) then plain 5 else by_file (read_one edit) (placed 2) (λ e. plain (raise_refusal (tally_of counts) answer))

  unfoldable pub raise_left : List ℕ
  raise_left =
      if overfull (tally_of counts) then counts else by_file (read_one edit) (λ k p. counts) (λ e. numbers_of (raise (tally_of counts) e answer))

-- The key ring of this module: `unfolding opened` opens every definition above.
unfoldable pub opened : Unit {0}
unfolding named named_under one_reply one_left sheet_one_reply sheet_one_left tally_of numbers_of raise_reply raise_left
opened = tt
