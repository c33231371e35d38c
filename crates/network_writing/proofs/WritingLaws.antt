-- A network written: the call is refused, too short or writes; and the numbers of one row more. Assumes nothing.
use Prim.Native.Nat.{ℕ, ◌+◌, ◌≤◌, ◌<◌}
use mathlib.Core.Path.{◌≡◌, refl, sym, ◌∙◌, ap}
use mathlib.Core.List.{List, [], ◌∷◌, ◌++◌, flat_map, append-nil, append_assoc}
use lib.ListN.{length, get_or, take}
use Rattle.std.proofs.lemmas.List.{take_more}
use Rattle.std.specs.Prelude.{Ok, Err}
use Rattle.base.specs.RefusalNumbers.{number_of}
use Rattle.base.specs.declared.refusal.Refusal.{Refusal}
use Rattle.base.specs.declared.refusal.OutputError.{OutputError}
use Rattle.network.specs.declared.Network.{Network}
use Rattle.network.specs.Networks.{network_refusal}
use Rattle.timetable.specs.Formats.{bytes_of}
use Rattle.timetable.specs.NetworkFile.{network_numbers}
use Rattle.timetable.specs.Outputs.{reply_of, put}
use Rattle.timetable.proofs.OutputLaws.{refused_with, short_of, filled}
use Rattle.network_writing.specs.Writing.{write_network, network_written}

module _ (n : Network) (out : List ℕ) where
  pub network_bad : (r : Refusal) → number_of r ≡ network_refusal n → (reply_of (Err (OutputError.Refused r)) ≡ write_network n out) × (out ≡ network_written n out)
  unfolding write_network network_written
  network_bad r e = rw (sym e) (refused_with (bytes_of (network_numbers n)) out r)

  module _ (good : network_refusal n ≡ 0) (m : ℕ) (needed : m ≡ length (bytes_of (network_numbers n))) where
    pub network_short : length out < m → (reply_of (Err (OutputError.TooShort m)) ≡ write_network n out) × (out ≡ network_written n out)
    unfolding write_network network_written
    network_short h = rw good (short_of (bytes_of (network_numbers n)) out m needed h)

    pub network_fits : m ≤ length out → (reply_of (Ok m) ≡ write_network n out) × (put 0 (bytes_of (network_numbers n)) out ≡ network_written n out)
    unfolding write_network network_written
    network_fits h = rw good (filled (bytes_of (network_numbers n)) out m needed h)

-- the numbers of one row more
each_append : {A : Type 0} (f : A → List ℕ) (xs ys : List A) → flat_map f (xs ++ ys) ≡ flat_map f xs ++ flat_map f ys
unfolding flat_map
each_append f [] ys = refl
each_append f (x ∷ xs) ys = ap (λ (l : List ℕ). f x ++ l) (each_append f xs ys) ∙ sym (append_assoc (f x) (flat_map f xs) (flat_map f ys))

pub rows_more : {A : Type 0} (f : A → List ℕ) (rows : List A) (i : ℕ) (x : A) → i < length rows → x ≡ get_or rows i x
    → flat_map f (take (i + 1) rows) ≡ flat_map f (take i rows) ++ f x
unfolding flat_map
rows_more f rows i x h e =
    ap (flat_map f) (take_more rows i x h) ∙ each_append f (take i rows) (get_or rows i x ∷ [])
    ∙ ap (λ (l : List ℕ). flat_map f (take i rows) ++ l) (append-nil (f (get_or rows i x)) ∙ ap f (sym e))
