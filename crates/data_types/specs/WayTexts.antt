-- The text of one step of a way.
use Rattle.std.specs.Prelude.{ℕ, ◌==◌, ◌++◌, if◌then◌else◌, List, codes, decimal}
use Rattle.data_types.specs.promise.Ways.{dictionary_step}

-- a step to a child or to the dictionary
abbrev pub step_text : ℕ → List ℕ
step_text step = if step == dictionary_step then codes "/d" else codes "/" ++ decimal step
