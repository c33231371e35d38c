-- Edits that work at several places, each place with an order of its own. Document 01, "Sheets and division": "It reads
-- and changes only the sheets of those areas"; "each edit works on what the one before left .. and nothing else writes
-- there meanwhile." A place has versions, counted from 0; an edit works at one position of each place that it names: it
-- reads the version that stands there and writes the next. Assumes nothing.
use Rattle.std.specs.Prelude.{ℕ, suc, ◌<◌, ◌≤◌, Bool, List, [], ◌∷◌, ◌≡◌, T}
use Rattle.theory.specs.Reordering.{at}

-- an edit, and its position at each place
pub record Work (Edit Place : Type 0) : Type 0 where
  pub edit : Edit
  pub position : Place → ℕ

-- The edits of a list were done from the positions `first` up to the positions `last`, each of its places read and
-- written at once; `written x k` is what the work x makes of the place k.
pub record Serial {Edit Place Part : Type 0} (names : Edit → Place → Bool) (versions : Place → ℕ → Part)
    (written : Work Edit Place → Place → Part) (first last : Place → ℕ) (xs : List (Work Edit Place)) : Type 0 where
  -- at each place the positions rise along the list
  pub rising : (i j : ℕ) (x y : Work Edit Place) → at xs i ≡ x ∷ [] → at xs j ≡ y ∷ [] → i < j
      → (k : Place) → T (names x.edit k) → T (names y.edit k) → x.position k < y.position k
  pub from_first : (i : ℕ) (x : Work Edit Place) → at xs i ≡ x ∷ [] → (k : Place) → T (names x.edit k) → first k ≤ x.position k
  pub up_to_last : (i : ℕ) (x : Work Edit Place) → at xs i ≡ x ∷ [] → (k : Place) → T (names x.edit k) → x.position k < last k
  pub onward : (k : Place) → first k ≤ last k
  -- the next version is what the edit makes of the place
  pub writes : (i : ℕ) (x : Work Edit Place) → at xs i ≡ x ∷ [] → (k : Place) → T (names x.edit k) → versions k (suc (x.position k)) ≡ written x k
  -- "and nothing else writes there meanwhile"
  pub nothing_else : (k : Place) (t : ℕ) → first k ≤ t
      → ((i : ℕ) (x : Work Edit Place) → at xs i ≡ x ∷ [] → T (names x.edit k) → ¬ (x.position k ≡ t)) → versions k (suc t) ≡ versions k t

-- one after another: the edits of a list, counted from i, each with its number as its position at every place
unfoldable pub numbered : {Edit Place : Type 0} → ℕ → List Edit → List (Work Edit Place)
numbered i [] = []
numbered i (e ∷ es) = record { edit = e; position = λ k. i } ∷ numbered (suc i) es

-- The key ring of this module: `unfolding opened` opens every definition above.
unfoldable pub opened : Unit {0}
unfolding numbered
opened = tt
