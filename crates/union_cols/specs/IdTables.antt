-- An entry of a table of children by their ids.
use Rattle.std.specs.Prelude.{ℕ, ◌==◌, if◌then◌else◌, Option, Some, None}

-- 255 stands for no child
abbrev pub entry : ℕ → Option ℕ
entry place = if place == 255 then None else Some place
