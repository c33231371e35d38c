-- What the calls of a recheck answer, and what the lent buffer then holds: under a network, the edit's file, then the
-- call. Assumes nothing.
use Rattle.std.specs.Prelude.{ℕ, List}
use Rattle.timetable.specs.Outputs.{output, output_after}
use Rattle.single_edit.specs.Reading.{read_one}
use Rattle.replies.specs.Replies.{placed, of_reply, by_file}
use Rattle.recheck.specs.Rechecks.{recheck_refusal, recheck_list, area_recheck_refusal, area_recheck_list}
use Rattle.edit_replies.specs.Types.{Area, Network, Reply}

module _ (n : Network) (sheet edit : List ℕ) (list out : List ℕ) where
  unfoldable pub recheck_reply : Reply
  recheck_reply = by_file (read_one edit) (placed 2) (λ e. of_reply (output (recheck_refusal n e sheet list) (recheck_list n e sheet list) out))

  unfoldable pub recheck_left : List ℕ
  recheck_left = by_file (read_one edit) (λ k p. out) (λ e. output_after (recheck_refusal n e sheet list) (recheck_list n e sheet list) out)

module _ (n : Network) (sheet edit : List ℕ) (a : Area) (list out : List ℕ) where
  unfoldable pub area_reply : Reply
  area_reply = by_file (read_one edit) (placed 2) (λ e. of_reply (output (area_recheck_refusal n e a sheet list) (area_recheck_list n e a sheet list) out))

  unfoldable pub area_left : List ℕ
  area_left = by_file (read_one edit) (λ k p. out) (λ e. output_after (area_recheck_refusal n e a sheet list) (area_recheck_list n e a sheet list) out)

-- The key ring of this module: `unfolding opened` opens every definition above.
unfoldable pub opened : Unit {0}
unfolding recheck_reply recheck_left area_reply area_left
opened = tt
