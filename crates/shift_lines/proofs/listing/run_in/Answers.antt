-- `shift_lines::listing::run_in` meets its contract: an empty division is known to be good, the list run on it leaves
-- the edits' division and answers (EditsRun), and what the edits leave is known to be good. Assumes nothing.
use Prim.Native.Nat.{ℕ, ◌*◌, ◌≤◌}
use mathlib.Core.Path.{◌≡◌, ◌∙◌, ap}
use mathlib.Core.List.{List}
use native.Mathlib.Omega.{arith}
use lib.ListN.{length, length-replicate}
use borrow.Author.Rules.{rules}
use Rattle.records.specs.Bytes.{zeros}
use Rattle.edit_calls.specs.Lists.{known_good, division_of}
use Rattle.timetable.specs.FileForms.{newest_form}
use Rattle.edit_calls.specs.between.Taken.{edits_at}
use Rattle.shift_lines.specs.Types.{Edit}
use Rattle.shift_lines.specs.between.Listing.{told, answers_from}
use Rattle.shift_lines.proofs.EditsRun.{division_run, answers_told}
use Rattle.shift_lines.proofs.ListingLines.{left_known, run-put}
use Rattle.shift_lines.proofs.listing.run_in.Goals as goal

pub put_answers-progress-requires : goal.put_answers-progress-requires
put_answers-progress-requires c =
    let s = c.args in
    let l = c.run_list in
    let f = c.requires.1 in
    let fits : 2 * s.count ≤ length l.new.out = omega (arith, f.0, c.requires.2, l.auto.out) in
    (f.0, fits, f.1)

pub put_end-requires : goal.put_end-requires
put_end-requires c =
    let s = c.args in
    let l = c.run_list in
    let f = c.requires.1 in
    let w = c.put_answers-progress in
    let size : length s.division.now ≡ 49152 = ap length c.requires.3 ∙ length-replicate {A = ℕ} 49152 0 in
    let left = l.ensures.told.1 ∙ division_run s.n.now s.file.now s.first s.count f s.division.now s.answers.now size c.requires.2
    ∙ ap (division_of s.n.now (edits_at newest_form s.count s.file.now s.first)) c.requires.3 in
    (ap (known_good s.n.now) left ∙ left_known s.n.now c.requires.0 (edits_at newest_form s.count s.file.now s.first), omega (arith, w.ensures.0.2, f.0))

pub returns : goal.returns
returns c =
    let s = c.args in
    let l = c.run_list in
    let f = c.requires.1 in
    let w = c.put_answers-progress in
    let es : List Edit = edits_at newest_form s.count s.file.now s.first in
    let size : length s.division.now ≡ 49152 = ap length c.requires.3 ∙ length-replicate {A = ℕ} 49152 0 in
    let left = l.ensures.told.1 ∙ division_run s.n.now s.file.now s.first s.count f s.division.now s.answers.now size c.requires.2
    ∙ ap (division_of s.n.now es) c.requires.3 in
    let same : answers_from s.count l.new.out 0 ≡ told s.n.now es (zeros 49152) =
    ap (λ (xs : List ℕ). answers_from s.count xs 0) l.ensures.told.2
    ∙ answers_told s.n.now s.file.now s.first s.count f s.division.now s.answers.now size c.requires.2
    ∙ ap (told s.n.now es) c.requires.3 in
    run-put s.n.now c.requires.0 es (answers_from s.count l.new.out 0) same l.new.division left w.result.tally w.ensures.1
    w.result.at c.put_end.result s.count _ _ _ w.ensures.0 f.0 c.put_end.ensures
