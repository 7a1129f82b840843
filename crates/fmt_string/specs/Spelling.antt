-- The keyword of floats.
use Rattle.std.specs.Prelude.{ℕ, List, codes, if◌then◌else◌, ◌==◌}

abbrev pub float_word : ℕ → List ℕ
float_word bits = if bits == 16 then codes "e" else if bits == 32 then codes "f" else codes "g"
