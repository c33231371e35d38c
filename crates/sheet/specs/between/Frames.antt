-- A sheet or a division as pages of 512 bytes in a row: a page is a page wherever it stands. Assumes nothing.
use Rattle.std.specs.Prelude.{ℕ, ◌*◌, List, take, drop}
use Rattle.records.specs.Bytes.{splice}

-- the page at an index
unfoldable pub frame : ℕ → List ℕ → List ℕ
frame i b = take 512 (drop (512 * i) b)

-- a page written there
unfoldable pub put_frame : ℕ → List ℕ → List ℕ → List ℕ
put_frame i page b = splice (512 * i) page b

-- the page there changed
unfoldable pub change_frame : ℕ → (List ℕ → List ℕ) → List ℕ → List ℕ
change_frame i f b = put_frame i (f (frame i b)) b

-- The key ring of this module: `unfolding opened` opens every definition above.
unfoldable pub opened : Unit {0}
unfolding frame put_frame change_frame
opened = tt
