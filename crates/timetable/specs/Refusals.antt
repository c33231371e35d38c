-- What refuses a call, in document 01's order: "5, 3, 4, 7, 6, 8, 9, 10, 11, 12, 13"; W1's 14 and W7's 15 are "tested
-- straight after 3 (of numbers so placed the higher first)". A number that stands between 3 and 4 is the call's own
-- (15) or, behind those, the network's (14); 4 is the network's. Assumes nothing.
use Rattle.std.specs.Prelude.{ℕ, Bool, not, ◌||◌, eqb}
use Rattle.base.specs.Choice.{◌if◌else◌}
use Rattle.std.specs.Prelude.{if◌then◌else◌}

-- the one, or what comes behind it
unfoldable pub or_else : ℕ → ℕ → ℕ
or_else k later = if eqb k 0 then later else k

-- before any sheet is looked at: by the call's own values, by the network, then by both (7)
unfoldable pub early : ℕ → ℕ → ℕ → ℕ
early own network both = 3 if eqb own 3 || eqb network 3 else or_else own (or_else network both)

-- 5 for buffers that do not fit, what refuses early, 6 for sheets that are not good, then what the sheets say
unfoldable pub call_refusal : Bool → ℕ → Bool → ℕ → ℕ
call_refusal fits early good late = 5 if not fits else or_else early (6 if not good else late)

-- The key ring of this module: `unfolding opened` opens every definition above.
unfoldable pub opened : Unit {0}
unfolding or_else early call_refusal
opened = tt
