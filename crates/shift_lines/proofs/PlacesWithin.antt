-- The place that a refusal of `shift`'s input carries lies within the file or at its end: reading never goes past it,
-- and what only the whole network shows has a place of the file (network_files). Assumes nothing.
use Prim.Native.Nat.{ℕ, ◌≤◌}
use mathlib.Core.Path.{◌≡◌, refl, subst}
use mathlib.Core.List.{List}
use native.Mathlib.Omega.{arith}
use lib.ListN.{length}
use Rattle.timetable.specs.Formats.{done, Outcome, accepted, refused, ◌and_then◌, behind, read, ended, read_file}
use Rattle.timetable.specs.NetworkFile.{network_format, network_of, network_fault, unless_fault}
use Rattle.timetable.specs.FileForms.{newest_form}
use Rattle.timetable.specs.EditsFile.{Shift, Input, edits_format, shift_format, read_shift}
use Rattle.timetable.proofs.OutcomeLaws.{ended_taken}
use Rattle.fields.proofs.EntryLaws.{then_taken}
use Rattle.network_files.proofs.PlaceLaws.{Within, read_within, ended_within, taken_same, network_within}

module _ (file : List ℕ) where
  abbrev tested : Input → ℕ → Outcome Shift
  tested x next = unless_fault (network_fault x.listed) (accepted (record { network = network_of x.listed; edits = x.edits }) next)

  pub shift_within : Within (length file) (read_shift file)
  unfolding read_shift read_file read behind shift_format Within
  shift_within =
      go (ended file (read shift_format file 0)) refl (ended_within file (read shift_format file 0) (read_within shift_format file 0 (omega arith)))
    where
      go : (o : Outcome Input) → ended file (read shift_format file 0) ≡ o → Within (length file) o → Within (length file) (behind o tested)
      go (refused k p) e h = h
      go (accepted x next) e h =
          let r = ended_taken file (read shift_format file 0) x next e in
          let (y, p, u, v) = then_taken network_format (λ y. edits_format newest_form and_then (λ es. done (record { listed = y; edits = es }))) file 0 x next r in
          let (es, q, w, z) = then_taken (edits_format newest_form) (λ es. done (record { listed = y; edits = es })) file p x next v in
          let i : record { listed = y; edits = es } ≡ x = taken_same _ x q next z in
          rw (← i) (network_within file y p u (accepted (record { network = network_of y; edits = es }) next) h)

  pub refused_within : (k p : ℕ) → read_shift file ≡ refused k p → p ≤ length file
  unfolding Within
  refused_within k p e = (subst (Within (length file)) e shift_within).1
