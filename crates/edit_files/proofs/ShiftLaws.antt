-- The input of `shift` by what its parts say: bytes too many are 1, and only then does what only the whole network shows
-- refuse it. Assumes nothing.
use Prim.Native.Nat.{ℕ, ◌<◌, ◌≤◌}
use mathlib.Core.Path.{◌≡◌, refl, sym, ◌∙◌, ap}
use mathlib.Core.List.{List}
use native.Mathlib.Omega.{arith}
use lib.ListN.{length}
use Rattle.std.specs.Prelude.{Option, None, Some}
use Rattle.base.specs.RefusalNumbers.{number_of}
use Rattle.base.specs.declared.refusal.FileError.{FileError}
use Rattle.railway.specs.declared.edit.Edit.{Edit}
use Rattle.network.specs.declared.Network.{Network}
use Rattle.timetable.specs.declared.Fault.{Fault}
use Rattle.timetable.specs.Formats.{Format, done, Outcome, accepted, refused, ◌and_then◌, behind, read, ended, read_file, Placed}
use Rattle.timetable.specs.NetworkFile.{Listed, network_format, network_of, network_fault, unless_fault}
use Rattle.timetable.specs.FileForms.{newest_form}
use Rattle.timetable.specs.EditsFile.{edits_format, Shift, Input, shift_format, read_shift}
use Rattle.timetable.proofs.OutcomeLaws.{fault_found, fault_free}
use Rattle.timetable.proofs.OutputLaws.{number_there}
use Rattle.fields.proofs.EntryLaws.{then_on, then_stop, made, unmade, ends_there, goes_on}
use Rattle.network_files.specs.declared.draft.Draft.{Draft}
use Rattle.network_files.specs.between.Faults.{fault_told}
use Rattle.network_files.specs.Answers.{DraftOf}
use Rattle.network_files.proofs.PlaceLaws.{next_within}

module _ (file : List ℕ) where
  -- what is tested behind the edits' end
  abbrev tested : Input → ℕ → Outcome Shift
  tested x next = unless_fault (network_fault x.listed) (accepted (record { network = network_of x.listed; edits = x.edits }) next)

  abbrev ending : Outcome Input → Outcome Shift
  ending o = behind (ended file o) tested

  abbrev behind_network : Listed → Format Input
  behind_network x = edits_format newest_form and_then (λ es. done (record { listed = x; edits = es }))

  pub shift_network_faulty : (k p : ℕ) → read network_format file 0 ≡ refused k p → read_shift file ≡ refused k p
  unfolding read_shift read_file shift_format behind ended
  shift_network_faulty k p e = ap ending (then_stop network_format behind_network file 0 k p e)

  module _ (x : Listed) (place : ℕ) (o : read network_format file 0 ≡ accepted x place) where
    pub shift_edits_faulty : (k p : ℕ) → read (edits_format newest_form) file place ≡ refused k p → read_shift file ≡ refused k p
    unfolding read_shift read_file shift_format behind ended
    shift_edits_faulty k p e =
        ap ending (then_on network_format behind_network file 0 x place o
        ∙ unmade {A = Input} (λ (es : Placed (List Edit)). record { listed = x; edits = es }) (edits_format newest_form) file place k p e)

    module _ (es : Placed (List Edit)) (end : ℕ) (p : read (edits_format newest_form) file place ≡ accepted es end) where
      abbrev input : Input
      input = record { listed = x; edits = es }

      whole : read shift_format file 0 ≡ accepted input end
      unfolding shift_format
      whole =
          then_on network_format behind_network file 0 x place o
          ∙ made {A = Input} (λ (es : Placed (List Edit)). record { listed = x; edits = es }) (edits_format newest_form) file place es end p

      pub shift-goes-on : end < length file → read_shift file ≡ refused 1 end
      unfolding read_shift read_file behind
      shift-goes-on h = ap ending whole ∙ ap (λ (z : Outcome Input). behind z tested) (goes_on file input end h)

      module _ (h : length file ≤ end) (d : Draft) (t : DraftOf d x) where
        abbrev stand : Network → ℕ → Outcome Shift
        stand n e = accepted (record { network = n; edits = es }) e

        stands : read_shift file ≡ unless_fault (fault_told d.fault) (stand (network_of x) end)
        unfolding read_shift read_file behind
        stands =
            ap ending whole ∙ ap (λ (z : Outcome Input). behind z tested) (ends_there file input end h)
            ∙ ap (λ (f : Fault). unless_fault f (stand (network_of x) end)) (sym t.1)

        pub shift-at-fault : (e : FileError) → d.fault ≡ Some e → read_shift file ≡ refused (number_of e.refusal) e.place
        shift-at-fault e q =
            stands ∙ ap (λ (f : Option FileError). unless_fault (fault_told f) (stand (network_of x) end)) q
            ∙ fault_found (fault_told (Some e)) (stand (network_of x) end) (number_there e.refusal)

        pub shift-stands : d.fault ≡ None → read_shift file ≡ stand d.network (length file)
        shift-stands q =
            let z : end ≡ length file = omega (arith, next_within shift_format file 0 (omega arith) input end whole) in
            stands ∙ ap (λ (f : Option FileError). unless_fault (fault_told f) (stand (network_of x) end)) q
            ∙ fault_free (fault_told None) (stand (network_of x) end) refl ∙ ap (λ (n : Network). stand n end) (sym t.0) ∙ ap (stand d.network) z
