-- Lists of edits on bytes. A good division is the divided sheet that it merges to, so an edit leaves it good; and edits
-- one after another on a divided sheet are the edits on the sheet, divided. Both go by induction over the list. Assumes
-- nothing.
use Prim.Native.Nat.{ℕ}
use mathlib.Core.Path.{◌≡◌, refl, sym, ◌∙◌, ap}
use mathlib.Core.List.{List, [], ◌∷◌}
use lib.Dec.{T}
use lib.ListN.{length}
use Rattle.base.specs.Runs.{run, answers}
use Rattle.network.specs.Networks.{network_refusal, listed}
use Rattle.sheet.specs.Sheets.{good_sheet, good_division, divided, merged}
use Rattle.sheet.proofs.SheetLaws.{divided_size, merged_size, divided_merged, divided_good, merged_good}
use Rattle.machine.specs.Types.{Edit, Network, Answer}
use Rattle.machine.specs.Calls.{sheet_answer, sheet_after, division_answer, division_after}
use Rattle.machine.proofs.ByteEdits.{after_size, after_good, divided_edit_answer, divided_edit_after}

module _ (n : Network) (good : network_refusal n ≡ 0) where
  -- a good sheet of the right length, a good division of the right length
  pub record GoodSheet (sheet : List ℕ) : Type 0 where
    pub size : length sheet ≡ 8192
    pub fine : T (good_sheet n (listed n) sheet)

  pub record GoodDivision (division : List ℕ) : Type 0 where
    pub size : length division ≡ 49152
    pub fine : T (good_division n division)

  pub sheet_kept : (e : Edit) (sheet : List ℕ) → GoodSheet sheet → GoodSheet (sheet_after n e sheet)
  sheet_kept e sheet g = record { size = after_size n good sheet g.size g.fine e; fine = after_good n good sheet g.size g.fine e }

  divided_kept : (sheet : List ℕ) → GoodSheet sheet → GoodDivision (divided n sheet)
  divided_kept sheet g = record { size = divided_size n sheet g.size; fine = divided_good n good sheet g.size g.fine }

  -- an edit leaves a good division good
  pub division_kept : (e : Edit) (division : List ℕ) → GoodDivision division → GoodDivision (division_after n e division)
  division_kept e division g =
      let sheet : List ℕ = merged n division in
      let whole : GoodSheet sheet = record { size = merged_size n good division g.size; fine = merged_good n good division g.size g.fine } in
      let same : division_after n e division ≡ divided n (sheet_after n e sheet) =
      ap (division_after n e) (sym (divided_merged n good division g.size g.fine)) ∙ divided_edit_after n good sheet whole.size whole.fine e in
      rw same (divided_kept (sheet_after n e sheet) (sheet_kept e sheet whole))

  -- so does a list of edits, each on what the one before left
  pub sheets_kept : (es : List Edit) (sheet : List ℕ) → GoodSheet sheet → GoodSheet (run (sheet_after n) es sheet)
  unfolding run
  sheets_kept [] sheet g = g
  sheets_kept (e ∷ es) sheet g = sheets_kept es (sheet_after n e sheet) (sheet_kept e sheet g)

  pub divisions_kept : (es : List Edit) (division : List ℕ) → GoodDivision division → GoodDivision (run (division_after n) es division)
  unfolding run
  divisions_kept [] division g = g
  divisions_kept (e ∷ es) division g = divisions_kept es (division_after n e division) (division_kept e division g)

  -- edits on a divided sheet are the edits on the sheet, divided
  pub run_divided : (es : List Edit) (sheet : List ℕ) → GoodSheet sheet → run (division_after n) es (divided n sheet) ≡ divided n (run (sheet_after n) es sheet)
  unfolding run
  run_divided [] sheet g = refl
  run_divided (e ∷ es) sheet g =
      rw (divided_edit_after n good sheet g.size g.fine e) (run_divided es (sheet_after n e sheet) (sheet_kept e sheet g))

  -- and answer as they do
  pub answers_divided : (es : List Edit) (sheet : List ℕ) → GoodSheet sheet
      → answers (division_after n) (division_answer n) es (divided n sheet) ≡ answers (sheet_after n) (sheet_answer n) es sheet
  unfolding answers
  answers_divided [] sheet g = refl
  answers_divided (e ∷ es) sheet g =
      rw (divided_edit_after n good sheet g.size g.fine e, divided_edit_answer n good sheet g.size g.fine e)
      (ap (λ (l : List Answer). sheet_answer n e sheet ∷ l) (answers_divided es (sheet_after n e sheet) (sheet_kept e sheet g)))
