-- The calls: what each answers and what each lent buffer then holds, over the bytes that it is lent. Order: 5, the
-- network's file, the other file, then the refusals of the call itself. Assumes nothing.
use Rattle.std.specs.Prelude.{ℕ, Bool, ◌&&◌, List, eqb, ℤ, length, Option, None, Some, Result, Ok, Err}
use Rattle.std.specs.Prelude.{if◌then◌else◌}
use Rattle.timetable.specs.Formats.{Outcome}
use Rattle.timetable.specs.NetworkFile.{read_network}
use Rattle.timetable.specs.Turning.{turn_reply, turn_after}
use Rattle.timetable.specs.Outputs.{output, output_after}
use Rattle.sheet.specs.Sheets.{divide_refusal, after_divide, merge_refusal, after_merge}
use Rattle.findings.specs.Lists.{sheet_list, area_list, two_list, sheet_list_refusal, area_list_refusal, two_list_refusal}
use Rattle.edit_calls.specs.Lists.{run_answer, run_division, run_answers}
use Rattle.timetable_files.specs.Calls.{read_answer, read_after}
use Rattle.timetable_writing.specs.Writing.{write_timetable, timetable_written}
use Rattle.projection.specs.Calls.{project_answer, project_after}
use Rattle.replies.specs.Replies.{plain, placed, of_reply_in, of_reply, of_outcome, by_file, told, left}
use Rattle.edit_replies.specs.Replies.{named_under, one_reply, one_left, sheet_one_reply, sheet_one_left}
use Rattle.edit_replies.specs.Rechecks as rechecks
use Rattle.strakewhip.specs.Types.{Area, Network, NetworkForm, FileForm, Reply}

abbrev pub is_sheet : List ℕ → Bool
is_sheet sheet = eqb (length sheet) 8192

abbrev pub is_division : List ℕ → Bool
is_division division = eqb (length division) 49152

-- the network of a call whose buffers fit, or its answer: 5, then the refusal of the network's file
unfoldable pub entering : Bool → Outcome Network → Result Network Reply
entering fits o = if fits then by_file o (λ k p. Err (placed 1 k p)) (λ n. Ok n) else Err (plain 5)

-- a network, and the areas that an edit names

unfoldable pub network_reply : List ℕ → Reply
network_reply network = of_outcome 1 (read_network network)

unfoldable pub names_reply : List ℕ → List ℕ → Reply
names_reply network edit = by_file (read_network network) (placed 1) (λ n. named_under n edit)

-- turning: the forms that there are, by number; 1 is W1's

abbrev pub form_of : ℕ → Option NetworkForm
form_of k = if eqb k 1 then Some NetworkForm.OneTime else None

-- 3 for a form that there is not
unfoldable pub turn_told : Option NetworkForm → List ℕ → List ℕ → Reply
turn_told None file out = plain 3
turn_told (Some form) file out = of_reply_in 1 (turn_reply form file out)

unfoldable pub turn_left : Option NetworkForm → List ℕ → List ℕ → List ℕ
turn_left None file out = out
turn_left (Some form) file out = turn_after form file out

-- an edit

module _ (network edit division : List ℕ) where
  unfoldable pub edit_reply : Reply
  edit_reply = told (is_division division) (read_network network) (λ n. one_reply n edit division)

  unfoldable pub edit_left : List ℕ
  edit_left = left (is_division division) (read_network network) division (λ n. one_left n edit division)

module _ (network edit sheet : List ℕ) where
  unfoldable pub sheet_edit_reply : Reply
  sheet_edit_reply = told (is_sheet sheet) (read_network network) (λ n. sheet_one_reply n edit sheet)

  unfoldable pub sheet_edit_left : List ℕ
  sheet_edit_left = left (is_sheet sheet) (read_network network) sheet (λ n. sheet_one_left n edit sheet)

-- a list of edits, in a form

module _ (form : FileForm) (network edits division answers : List ℕ) where
  unfoldable pub run_reply : Reply
  run_reply = told (is_division division) (read_network network) (λ n. of_reply (run_answer form n edits division answers))

  unfoldable pub run_left : List ℕ
  run_left = left (is_division division) (read_network network) division (λ n. run_division form n edits division answers)

  unfoldable pub answers_left : List ℕ
  answers_left = left (is_division division) (read_network network) answers (λ n. run_answers form n edits division answers)

-- dividing and merging

module _ (network sheet division : List ℕ) where
  unfoldable pub divide_reply : Reply
  divide_reply = told (is_sheet sheet && is_division division) (read_network network) (λ n. plain (divide_refusal n sheet division))

  unfoldable pub divide_left : List ℕ
  divide_left = left (is_sheet sheet && is_division division) (read_network network) division (λ n. after_divide n sheet division)

module _ (network division sheet : List ℕ) where
  unfoldable pub merge_reply : Reply
  merge_reply = told (is_division division && is_sheet sheet) (read_network network) (λ n. plain (merge_refusal n division sheet))

  unfoldable pub merge_left : List ℕ
  merge_left = left (is_division division && is_sheet sheet) (read_network network) sheet (λ n. after_merge n division sheet)

-- findings

module _ (network sheet : List ℕ) (out : List ℕ) where
  unfoldable pub findings_reply : Reply
  findings_reply = told (is_sheet sheet) (read_network network) (λ n. of_reply (output (sheet_list_refusal n sheet) (sheet_list n sheet) out))

  unfoldable pub findings_left : List ℕ
  findings_left = left (is_sheet sheet) (read_network network) out (λ n. output_after (sheet_list_refusal n sheet) (sheet_list n sheet) out)

module _ (network sheet : List ℕ) (a : ℕ) (out : List ℕ) where
  abbrev area : Area
  area = record { 0 = a }

  unfoldable pub area_reply : Reply
  area_reply = told (is_sheet sheet) (read_network network) (λ n. of_reply (output (area_list_refusal n sheet area) (area_list n sheet area) out))

  unfoldable pub area_left : List ℕ
  area_left = left (is_sheet sheet) (read_network network) out (λ n. output_after (area_list_refusal n sheet area) (area_list n sheet area) out)

module _ (network first second : List ℕ) (a b : ℕ) (out : List ℕ) where
  abbrev one : Area
  one = record { 0 = a }

  abbrev other : Area
  other = record { 0 = b }

  unfoldable pub pair_reply : Reply
  pair_reply =
      told (is_sheet first && is_sheet second) (read_network network)
      (λ n. of_reply (output (two_list_refusal n first second one other) (two_list n first second one other) out))

  unfoldable pub pair_left : List ℕ
  pair_left =
      left (is_sheet first && is_sheet second) (read_network network) out
      (λ n. output_after (two_list_refusal n first second one other) (two_list n first second one other) out)

-- a list of findings after one edit

module _ (network sheet edit : List ℕ) (list out : List ℕ) where
  unfoldable pub recheck_told : Reply
  recheck_told = told (is_sheet sheet) (read_network network) (λ n. rechecks.recheck_reply n sheet edit list out)

  unfoldable pub recheck_left : List ℕ
  recheck_left = left (is_sheet sheet) (read_network network) out (λ n. rechecks.recheck_left n sheet edit list out)

module _ (network sheet edit : List ℕ) (a : ℕ) (list out : List ℕ) where
  unfoldable pub recheck_area_told : Reply
  recheck_area_told = told (is_sheet sheet) (read_network network) (λ n. rechecks.area_reply n sheet edit (record { 0 = a }) list out)

  unfoldable pub recheck_area_left : List ℕ
  recheck_area_left = left (is_sheet sheet) (read_network network) out (λ n. rechecks.area_left n sheet edit (record { 0 = a }) list out)

-- timetable files

module _ (form : FileForm) (network timetable sheet : List ℕ) where
  unfoldable pub read_reply : Reply
  read_reply = told (is_sheet sheet) (read_network network) (λ n. of_outcome 2 (read_answer form n timetable sheet))

  unfoldable pub read_left : List ℕ
  read_left = left (is_sheet sheet) (read_network network) sheet (λ n. read_after form n timetable sheet)

module _ (network sheet out : List ℕ) where
  unfoldable pub write_reply : Reply
  write_reply = told (is_sheet sheet) (read_network network) (λ n. of_reply (write_timetable n sheet out))

  unfoldable pub write_left : List ℕ
  write_left = left (is_sheet sheet) (read_network network) out (λ n. timetable_written n sheet out)

-- the projection

module _ (network sheet : List ℕ) (s t a : ℕ) (out : List ℤ) where
  unfoldable pub project_reply : Reply
  project_reply = told (is_sheet sheet) (read_network network) (λ n. of_reply (project_answer n (record { 0 = s }) (record { 0 = t }) (record { 0 = a }) sheet out))

  unfoldable pub project_left : List ℤ
  project_left = left (is_sheet sheet) (read_network network) out (λ n. project_after n (record { 0 = s }) (record { 0 = t }) (record { 0 = a }) sheet out)

-- The key ring of this module: `unfolding opened` opens every definition above.
unfoldable pub opened : Unit {0}
unfolding entering network_reply names_reply turn_told turn_left edit_reply edit_left sheet_edit_reply sheet_edit_left run_reply run_left answers_left divide_reply divide_left merge_reply merge_left findings_reply
    findings_left area_reply area_left pair_reply pair_left recheck_told recheck_left recheck_area_told recheck_area_left read_reply read_left write_reply write_left project_reply project_left
opened = tt
