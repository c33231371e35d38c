-- Steps one after another, each on what the one before left. Assumes nothing.
use Rattle.std.specs.Prelude.{List, [], ◌∷◌}

module _ {Edit State : Type 0} (step : Edit → State → State) where
  -- the state after all of them, first to last
  unfoldable pub run : List Edit → State → State
  run [] st = st
  run (e ∷ es) st = run es (step e st)

  -- what each of them answers, first to last
  unfoldable pub answers : {Answer : Type 0} → (Edit → State → Answer) → List Edit → State → List Answer
  answers answer [] st = []
  answers answer (e ∷ es) st = answer e st ∷ answers answer es (step e st)

-- The key ring of this module: `unfolding opened` opens every definition above.
unfoldable pub opened : Unit {0}
unfolding run answers
opened = tt
