-- The input of `inspect`: 5, a faulty number of its network, and then the timetable behind the network as a whole.
-- Assumes nothing.
use Prim.Native.Nat.{ℕ}
use mathlib.Core.Path.{◌≡◌, refl, sym, ◌∙◌, ap, ap₂}
use mathlib.Core.Bool.{Bool, true, false}
use mathlib.Core.List.{List}
use lib.Dec.{leb, eqb}
use lib.ListN.{length}
use borrow.Author.Tests.{eq-eqb, ne_eqb}
use Rattle.std.specs.Prelude.{if◌then◌else◌}
use Rattle.std.specs.Prelude.{Result, Ok, Err}
use Rattle.base.specs.RefusalNumbers.{number_of}
use Rattle.base.specs.declared.refusal.FileError.{FileError}
use Rattle.base.specs.declared.refusal.Refusal.TheVariants.{WrongLength}
use Rattle.network.specs.declared.Network.{Network}
use Rattle.timetable.specs.declared.Fault.{Fault}
use Rattle.timetable.specs.Formats.{Format, done, Outcome, accepted, refused, ◌and_then◌, behind, read, ended, read_file, number, place_of, value_or, Placed, placed}
use Rattle.timetable.specs.NetworkFile.{Listed, network_format, network_of, network_fault, unless_fault}
use Rattle.timetable.specs.Machine.{Timetable}
use Rattle.timetable.specs.FileForms.{newest_form}
use Rattle.timetable.specs.TimetableFile.{Entries, timetable_format, timetable_of}
use Rattle.timetable.specs.InspectFile.{Inspection, Both, inspect_format, inspection, read_inspect}
use Rattle.fields.specs.Outcomes.{end_of}
use Rattle.fields.proofs.EndLaws.{end_accepted, end_refused}
use Rattle.fields.proofs.EntryLaws.{then_on, then_stop, made, unmade, placed_some, placed_none}
use Rattle.timetable_entries.specs.Answers.{sheet_of}
use Rattle.timetable_entries.specs.between.Rest.{rest_of, rest_outcome}
use Rattle.timetable_files.specs.declared.input.InspectRead.{InspectRead}
use Rattle.timetable_files.specs.Inspect.{inspect_outcome, inspect_told, inspect_read, inspect_sheet, inspect_answer, inspect_after}

-- what the call answers, and the sheet then
abbrev pub Tells : List ℕ → List ℕ → Result InspectRead FileError → List ℕ → Type 0
Tells file sheet r later = (inspect_told r ≡ inspect_answer file sheet) × (later ≡ inspect_after file sheet)

-- the network and the place of the timetable, told beside it
abbrev beside : Network → ℕ → Timetable → ℕ → Outcome Inspection
beside n at m next = accepted (record { network = n; first = at; timetable = m }) next

abbrev both : Listed → ℕ → Entries → Both
both x at es = record { listed = x; entries = record { place = at; entry = es } }

abbrev behind_network : Listed → Format Both
behind_network x = placed (timetable_format newest_form) and_then (λ es. done (record { listed = x; entries = es }))

module _ (file sheet : List ℕ) where
  is_refused : (e : FileError) → inspect_outcome file sheet ≡ refused (number_of e.refusal) e.place → Tells file sheet (Err e) sheet
  unfolding inspect_answer inspect_after inspect_read inspect_sheet number place_of value_or
  is_refused e q = (sym (ap inspect_read q), sym (ap (λ (o : Outcome Inspection). inspect_sheet o sheet) q))

  pub wrong_length : ¬ (length sheet ≡ 8192) → Tells file sheet (Err (record { refusal = WrongLength; place = 0 })) sheet
  unfolding inspect_outcome
  wrong_length d = is_refused (record { refusal = WrongLength; place = 0 }) (rw (ne_eqb (length sheet) 8192 d))

  pub network_faulty : length sheet ≡ 8192 → (e : FileError) → read network_format file 0 ≡ refused (number_of e.refusal) e.place → Tells file sheet (Err e) sheet
  unfolding inspect_outcome read_inspect read_file inspect_format behind ended
  network_faulty size e o =
      let q = then_stop network_format behind_network file 0 (number_of e.refusal) e.place o in
      is_refused e (rw (eq-eqb (length sheet) 8192 size, q))

  module _ (x : Listed) (p : ℕ) (o : read network_format file 0 ≡ accepted x p) where
    -- the timetable decides
    decided : read_inspect file ≡ behind (rest_of newest_form (network_of x) (network_fault x) file p) (beside (network_of x) p)
    unfolding read_inspect read_file rest_of behind ended inspect_format inspection unless_fault
    decided =
        ap (λ (z : Outcome Both). behind (ended file z) (λ x next. unless_fault (network_fault x.listed) (inspection x next))) (then_on network_format behind_network file 0 x p o)
        ∙ go (read (timetable_format newest_form) file p) refl
      where
        fault : (b : Bool) (c : Outcome Timetable) (k j : ℕ) → (if b then behind c (beside (network_of x) p) else refused k j) ≡ behind (if b then c else refused k j) (beside (network_of x) p)
        fault true c k j = refl
        fault false c k j = refl

        end : (b : Bool) (es : Entries) (next : ℕ)
            → behind (if b then accepted (both x p es) next else refused 1 next) (λ x next. unless_fault (network_fault x.listed) (inspection x next))
            ≡ behind (behind (if b then accepted es next else refused 1 next) (λ es next. unless_fault (network_fault x) (timetable_of (network_of x) es next))) (beside (network_of x) p)
        end true es next = fault (eqb (network_fault x).number 0) (timetable_of (network_of x) es next) (network_fault x).number (network_fault x).place
        end false es next = refl

        go : (o : Outcome Entries) → read (timetable_format newest_form) file p ≡ o
            → behind (ended file (read (behind_network x) file p)) (λ x next. unless_fault (network_fault x.listed) (inspection x next))
            ≡ behind (behind (ended file o) (λ es next. unless_fault (network_fault x) (timetable_of (network_of x) es next))) (beside (network_of x) p)
        go (accepted es next) q =
            rw (made {A = Both} (λ (es : Placed Entries). record { listed = x; entries = es }) (placed (timetable_format newest_form)) file p _ next (placed_some (timetable_format newest_form) file p es next q))
            (end (leb (length file) next) es next)
        go (refused k j) q =
            rw (unmade {A = Both} (λ (es : Placed Entries). record { listed = x; entries = es }) (placed (timetable_format newest_form)) file p k j (placed_none (timetable_format newest_form) file p k j q)) refl

    module _ (n : Network) (is : n ≡ network_of x) (f : Fault) (told : f ≡ network_fault x) where
      as-rest : inspect_outcome file sheet ≡ behind (rest_outcome newest_form n f file p sheet) (beside n p)
      unfolding inspect_outcome rest_outcome behind
      as-rest = go (eqb (length sheet) 8192) (decided ∙ ap₂ (λ (m : Network) (g : Fault). behind (rest_of newest_form m g file p) (beside m p)) (sym is) (sym told))
        where
          go : (b : Bool) → read_inspect file ≡ behind (rest_of newest_form n f file p) (beside n p)
              → (if b then read_inspect file else refused 5 0) ≡ behind (if b then rest_of newest_form n f file p else refused 5 0) (beside n p)
          go true q = q
          go false q = refl

      abbrev rest : Outcome Timetable
      rest = rest_outcome newest_form n f file p sheet

      pub rest_refused : (e : FileError) → refused (number_of e.refusal) e.place ≡ end_of rest → (later : List ℕ) → later ≡ sheet_of rest sheet → Tells file sheet (Err e) later
      unfolding behind sheet_of
      rest_refused e u later v =
          let z = end_refused rest (number_of e.refusal) e.place (sym u) in
          let (a, b) = is_refused e (as-rest ∙ ap (λ (o : Outcome Timetable). behind o (beside n p)) z) in
          (a, v ∙ ap (λ (o : Outcome Timetable). sheet_of o sheet) z ∙ b)

      pub rest_taken : (next : ℕ) → accepted tt next ≡ end_of rest → (later : List ℕ) → later ≡ sheet_of rest sheet
          → Tells file sheet (Ok (record { network = n; first = p; place = next })) later
      unfolding behind sheet_of inspect_answer inspect_after inspect_read inspect_sheet number place_of value_or
      rest_taken next u later v =
          let (m, z) = end_accepted rest next (sym u) in
          let w : inspect_outcome file sheet ≡ beside n p m next = as-rest ∙ ap (λ (o : Outcome Timetable). behind o (beside n p)) z in
          (sym (ap inspect_read w), v ∙ ap (λ (o : Outcome Timetable). sheet_of o sheet) z ∙ sym (ap (λ (o : Outcome Inspection). inspect_sheet o sheet) w))
