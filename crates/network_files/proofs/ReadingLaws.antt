-- A network file by what its draft says: bytes too many are 1, then what only the whole shows refuses it, else the
-- network stands. Assumes nothing.
use Prim.Native.Nat.{ℕ, ◌<◌, ◌≤◌}
use mathlib.Core.Path.{◌≡◌, refl, sym, ◌∙◌, ap}
use mathlib.Core.List.{List}
use lib.ListN.{length}
use Rattle.network.specs.declared.Network.{Network}
use Rattle.timetable.specs.Formats.{Outcome, accepted, refused, behind, read, ended, read_file}
use Rattle.timetable.specs.NetworkFile.{Listed, network_format_as, network_of, network_fault, unless_fault, read_network_as}
use Rattle.timetable.specs.declared.Fault.{Fault}
use Rattle.timetable.specs.declared.NetworkForm.{NetworkForm}
use Rattle.timetable.proofs.OutcomeLaws.{fault_free, fault_found}
use Rattle.fields.proofs.EntryLaws.{ends_there, goes_on}
use Rattle.fields.proofs.FileRefusals.{Told, behind_told, read_told, ended_told, fault_told as told_fault}
use Rattle.std.specs.Prelude.{Option, None, Some}
use Rattle.base.specs.RefusalNumbers.{number_of}
use Rattle.base.specs.declared.refusal.FileError.{FileError}
use Rattle.timetable.proofs.OutputLaws.{number_there}
use Rattle.network_files.specs.declared.draft.Draft.{Draft}
use Rattle.network_files.specs.between.Faults.{fault_told}
use Rattle.network_files.specs.Answers.{DraftOf}

-- a network file is never refused with 0
pub form_told : (form : NetworkForm) (file : List ℕ) → Told (read_network_as form file)
unfolding read_network_as read_file
form_told form file =
    behind_told (ended file (read (network_format_as form) file 0)) (λ x next. unless_fault (network_fault x) (accepted (network_of x) next))
    (ended_told file (read (network_format_as form) file 0) (read_told (network_format_as form) file 0)) (λ x next. told_fault (network_fault x) (network_of x) next)

-- a file of any form, whose network is read
module _ (form : NetworkForm) (file : List ℕ) where
  -- what is tested behind the network's end
  abbrev tested : Listed → ℕ → Outcome Network
  tested x next = unless_fault (network_fault x) (accepted (network_of x) next)

  abbrev ending : Outcome Listed → Outcome Network
  ending o = behind (ended file o) tested

  pub network_faulty : (k p : ℕ) → read (network_format_as form) file 0 ≡ refused k p → read_network_as form file ≡ refused k p
  unfolding read_network_as read_file behind ended
  network_faulty k p e = ap ending e

  module _ (x : Listed) (next : ℕ) (o : read (network_format_as form) file 0 ≡ accepted x next) where
    pub network_goes_on : next < length file → read_network_as form file ≡ refused 1 next
    unfolding read_network_as read_file behind
    network_goes_on h = ap ending o ∙ ap (λ (q : Outcome Listed). behind q tested) (goes_on file x next h)

    module _ (h : length file ≤ next) (d : Draft) (t : DraftOf d x) where
      stands : read_network_as form file ≡ unless_fault (fault_told d.fault) (accepted (network_of x) next)
      unfolding read_network_as read_file behind
      stands = ap ending o ∙ ap (λ (q : Outcome Listed). behind q tested) (ends_there file x next h) ∙ ap (λ (f : Fault). unless_fault f (accepted (network_of x) next)) (sym t.1)

      pub network_at_fault : (e : FileError) → d.fault ≡ Some e → read_network_as form file ≡ refused (number_of e.refusal) e.place
      network_at_fault e q = stands ∙ ap (λ (f : Option FileError). unless_fault (fault_told f) (accepted (network_of x) next)) q
          ∙ fault_found (fault_told (Some e)) (accepted (network_of x) next) (number_there e.refusal)

      pub network_stands : d.fault ≡ None → read_network_as form file ≡ accepted d.network next
      network_stands q = stands ∙ ap (λ (f : Option FileError). unless_fault (fault_told f) (accepted (network_of x) next)) q
          ∙ fault_free (fault_told None) (accepted (network_of x) next) refl ∙ ap (λ (y : Network). accepted y next) (sym t.0)
