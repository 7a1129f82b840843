-- The texts of ways to nodes.
use Rattle.std.specs.Prelude.{ℕ, ◌==◌, ◌++◌, if◌then◌else◌, List, [], ◌∷◌, flat_map, codes, decimal}
use Rattle.data_types.specs.promise.Ways.{Steps, dictionary_step}

-- the way to a node, by the steps to a child or to the dictionary
abbrev pub way_text : Steps → List ℕ
way_text [] = codes "/"
way_text (step ∷ steps) = flat_map (λ step. if step == dictionary_step then codes "/d" else codes "/" ++ decimal step) (step ∷ steps)
