-- How many stages a plan may have.
use Rattle.std.specs.Prelude.{ℕ}

-- the most stages of a plan that is carried out
abbrev pub most_stages : ℕ
most_stages = 16
