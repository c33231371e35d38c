-- The call that writes the line of a refusal: "A file refusal prints only R, number, place". Assumes nothing.
use Rattle.std.specs.Prelude.{ℕ, ltb}
use Rattle.base.specs.Choice.{◌if◌else◌}

-- a refusal's place is one of an input, else 3
unfoldable pub line_refusal : ℕ → ℕ
line_refusal place = 3 if ltb 16384 place else 0

-- The key ring of this module: `unfolding opened` opens every definition above.
unfoldable pub opened : Unit {0}
unfolding line_refusal
opened = tt
