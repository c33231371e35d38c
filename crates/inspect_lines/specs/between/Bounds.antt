-- How long a part is at most. Assumes nothing.
use Rattle.std.specs.Prelude.{ℕ, ◌*◌}
use Rattle.builder.specs.between.Builder.{findings_most}

-- a part of what `inspect` prints: behind the areas a finding's line has at most 30 bytes
abbrev pub part_most : ℕ
part_most = 30 * findings_most
