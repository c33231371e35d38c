-- Edits written: the calls are refused, too short or write; the bytes of edits one behind the other, and of a whole
-- file of them. Assumes nothing.
use Prim.Native.Nat.{ℕ, ◌+◌, ◌-◌, ◌<◌, ◌≤◌}
use mathlib.Core.Path.{◌≡◌, refl, sym, ◌∙◌, ap, subst}
use mathlib.Core.Bool.{true, false}
use mathlib.Core.List.{List, [], ◌∷◌, ◌++◌, flat_map, append-nil, append_assoc}
use native.Mathlib.Omega.{arith}
use lib.ListN.{length, take, replicate, length-append}
use Rattle.railway.specs.declared.edit.Edit.{Edit}
use Rattle.railway.specs.Edits.{edit_ok}
use Rattle.numbers.specs.Numbers.{write_number}
use Rattle.std.specs.Prelude.{Ok, Err}
use Rattle.base.specs.RefusalNumbers.{number_of}
use Rattle.base.specs.declared.refusal.OutputError.{OutputError}
use Rattle.base.specs.declared.refusal.Refusal.{Refusal}
use Rattle.base.specs.declared.refusal.Refusal.TheVariants.{OutOfRange}
use Rattle.timetable.specs.Formats.{Outcome, accepted, refused, number, value_or, field_at, read, read_file, bytes_of, Placed, placed}
use Rattle.timetable.specs.FileForms.{newest_form}
use Rattle.timetable.specs.EditsFile.{edit_numbers, edits_on, edits_format, read_edits, read_edits_as, edits_numbers}
use Rattle.timetable.specs.Outputs.{reply_of, put}
use Rattle.timetable.proofs.BuffersFilled.{put_two}
use Rattle.timetable.proofs.OutputLaws.{refused_with, short_of, filled}
use Rattle.timetable.proofs.OutcomeLaws.{behind_taken, ended_taken}
use Rattle.fields.proofs.EntryLaws.{placed_read}
use Rattle.fields.proofs.NumbersPut.{bytes_two}
use Rattle.fields.specs.declared.put.Numbers.{Numbers}
use Rattle.fields.specs.between.Answers.{in_use, padded, row_of}
use Rattle.fields.proofs.RowHolds.{row_held}
use Rattle.std.proofs.lemmas.List.{take_all}
use Rattle.edit_writing.specs.Writing.{range_refusal, write_edit, edit_written, edits_bytes, write_edits, edits_written}
use Rattle.edit_files.specs.declared.list.EditList.{EditList}
use Rattle.edit_files.specs.Answers.{list_of}
use Rattle.edit_files.proofs.EditsParts.{edits_many}

module _ (e : Edit) (out : List ℕ) where
  pub edit_bad : edit_ok e ≡ false → (reply_of (Err (OutputError.Refused OutOfRange)) ≡ write_edit e out) × (out ≡ edit_written e out)
  unfolding write_edit edit_written range_refusal
  edit_bad f = rw f (refused_with (bytes_of (edit_numbers newest_form e)) out OutOfRange)

  module _ (ok : edit_ok e ≡ true) (k : ℕ) (needed : k ≡ length (bytes_of (edit_numbers newest_form e))) where
    pub edit_short : length out < k → (reply_of (Err (OutputError.TooShort k)) ≡ write_edit e out) × (out ≡ edit_written e out)
    unfolding write_edit edit_written range_refusal
    edit_short h = rw ok (short_of (bytes_of (edit_numbers newest_form e)) out k needed h)

    pub edit_fits : k ≤ length out → (reply_of (Ok k) ≡ write_edit e out) × (put 0 (bytes_of (edit_numbers newest_form e)) out ≡ edit_written e out)
    unfolding write_edit edit_written range_refusal
    edit_fits h = rw ok (filled (bytes_of (edit_numbers newest_form e)) out k needed h)

-- the numbers that a row holds are thirteen at most
pub row_few : (r : Numbers) (ns : List ℕ) → r ≡ row_of ns → length r.values ≡ 13 → take 13 (in_use r) ≡ ns
unfolding row_of padded
row_few r ns e h =
    let m : length ns ≤ 13 = omega (arith, h, ap (λ (x : Numbers). length x.values) e, length-append ns (replicate (13 - length ns) 0)) in
    ap (take 13) (row_held e) ∙ take_all 13 ns m

-- edits one behind the other

abbrev pub list_bytes : List Edit → List ℕ
list_bytes es = bytes_of (flat_map (edit_numbers newest_form) es)

bytes_snoc : (es : List Edit) (e : Edit) → list_bytes (es ++ (e ∷ [])) ≡ list_bytes es ++ bytes_of (edit_numbers newest_form e)
unfolding bytes_of flat_map
bytes_snoc [] e = ap bytes_of (append-nil (edit_numbers newest_form e))
bytes_snoc (x ∷ es) e =
    bytes_two (edit_numbers newest_form x) (flat_map (edit_numbers newest_form) (es ++ (e ∷ [])))
    ∙ ap (λ (l : List ℕ). bytes_of (edit_numbers newest_form x) ++ l) (bytes_snoc es e)
    ∙ sym (append_assoc (bytes_of (edit_numbers newest_form x)) (list_bytes es) (bytes_of (edit_numbers newest_form e)))
    ∙ ap (λ (l : List ℕ). l ++ bytes_of (edit_numbers newest_form e)) (sym (bytes_two (edit_numbers newest_form x) (flat_map (edit_numbers newest_form) es)))

-- two lists that a file is read to are one
pub same_edits : (P : List Edit → Type 0) (o : Outcome (List Edit)) (es fs : List Edit) (p q : ℕ) → o ≡ accepted es p → o ≡ accepted fs q → P es → P fs
same_edits P o es fs p q a b x = let z : es ≡ fs = cc in subst P z x

-- one edit more
pub edit_put : (es : List Edit) (e : Edit) (at next later : ℕ) (b₀ b c : List ℕ) → next ≡ at + length (list_bytes es) → b ≡ put at (list_bytes es) b₀
    → later ≡ next + length (bytes_of (edit_numbers newest_form e)) → c ≡ put next (bytes_of (edit_numbers newest_form e)) b
    → (later ≡ at + length (list_bytes (es ++ (e ∷ [])))) × (c ≡ put at (list_bytes (es ++ (e ∷ []))) b₀)
edit_put es e at next later b₀ b c p q r s =
    let t = put_two at next later (list_bytes es) (bytes_of (edit_numbers newest_form e)) b₀ b c p q r s in
    (t.0 ∙ ap (λ (l : List ℕ). at + length l) (sym (bytes_snoc es e)), t.1 ∙ ap (λ (l : List ℕ). put at l b₀) (sym (bytes_snoc es e)))

-- the count before them
pub list_put : (k : ℕ) (es : List Edit) (at later : ℕ) (b₀ b c : List ℕ) → at ≡ 0 + length (write_number k) → b ≡ put 0 (write_number k) b₀
    → later ≡ at + length (list_bytes es) → c ≡ put at (list_bytes es) b
    → (later ≡ 0 + length (bytes_of (k ∷ flat_map (edit_numbers newest_form) es))) × (c ≡ put 0 (bytes_of (k ∷ flat_map (edit_numbers newest_form) es)) b₀)
unfolding bytes_of flat_map
list_put k es at later b₀ b c p q r s =
    put_two 0 at later (write_number k) (list_bytes es) b₀ b c p q r s

-- the edits that a file holds, from the place of the first

there : (file : List ℕ) (k s u : ℕ) (es : List Edit) (x : Placed (List Edit)) (next : ℕ) → accepted (record { place = s; entry = es }) u ≡ accepted x next → length es ≡ k
    → read (edits_on newest_form k) file s ≡ accepted es u → read (edits_on newest_form (length x.entry)) file x.place ≡ accepted x.entry u
there file k s u es x next e m o =
    let z : record { place = s; entry = es } ≡ x = cc in
    subst (λ (y : Placed (List Edit)). read (edits_on newest_form (length y.entry)) file y.place ≡ accepted y.entry u) z (ap (λ (j : ℕ). read (edits_on newest_form j) file s) m ∙ o)

pub edits_there : (file : List ℕ) (x : Placed (List Edit)) (next : ℕ) → read_edits file ≡ accepted x next
    → (end : ℕ) × (read (edits_on newest_form (length x.entry)) file x.place ≡ accepted x.entry end)
unfolding read_edits_as read_file edits_format read
edits_there file x next e =
    let (k, p, u, v) = behind_taken (field_at 0 1000 file 0) (λ k p. read (placed (edits_on newest_form k)) file p) x next (ended_taken file (read (edits_format newest_form) file 0) x next e) in
    let (es, q, w, y) = behind_taken (read (edits_on newest_form k) file p) (λ es q. accepted (record { place = p; entry = es }) q) x next (sym (placed_read (edits_on newest_form k) file p) ∙ v) in
    (q, there file k p q es x next y (edits_many newest_form k file p es q w) w)

module _ (file out : List ℕ) where
  pub list_refused : (r : Refusal) (p : ℕ) → read_edits file ≡ refused (number_of r) p → (reply_of (Err (OutputError.Refused r)) ≡ write_edits file out) × (out ≡ edits_written file out)
  unfolding write_edits edits_written number
  list_refused r p o = rw o (refused_with (edits_bytes file) out r)

  -- the list that is read, by its place and its count
  module _ (x : Placed (List Edit)) (next : ℕ) (o : read_edits file ≡ accepted x next) (l : EditList) (q : l ≡ list_of x) where
    pub list_there : (end : ℕ) × (read (edits_on newest_form l.count) file l.first ≡ accepted x.entry end)
    list_there = rw q (edits_there file x next o)

    list_is : bytes_of (l.count ∷ flat_map (edit_numbers newest_form) x.entry) ≡ edits_bytes file
    unfolding edits_bytes edits_numbers value_or
    list_is = rw (q, o) refl

    module _ (k : ℕ) (needed : k ≡ 0 + length (bytes_of (l.count ∷ flat_map (edit_numbers newest_form) x.entry))) where
      many : k ≡ length (edits_bytes file)
      many = omega (arith, needed, ap length list_is)

      pub list_short : length out < k → (reply_of (Err (OutputError.TooShort k)) ≡ write_edits file out) × (out ≡ edits_written file out)
      unfolding write_edits edits_written number
      list_short h = rw o (short_of (edits_bytes file) out k many h)

      pub list_fits : k ≤ length out
          → (reply_of (Ok k) ≡ write_edits file out) × (put 0 (bytes_of (l.count ∷ flat_map (edit_numbers newest_form) x.entry)) out ≡ edits_written file out)
      unfolding write_edits edits_written number
      list_fits h = rw (o, list_is) (filled (edits_bytes file) out k many h)
