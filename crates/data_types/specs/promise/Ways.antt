-- The way from the root to a node, as its steps.
use Rattle.std.specs.Prelude.{ℕ, ◌-◌, ◌^◌, List, ◌++◌, take, length, replicate}
use Rattle.data_types.specs.declared.path.Path.{Path}

abbrev pub Steps : Type 0
Steps = List ℕ

abbrev pub dictionary_step : ℕ
dictionary_step = 2 ^ 32 - 1

abbrev pub steps_of : Path → Steps
steps_of path = take path.depth path.steps

-- the path of these steps, with 0 in each place behind them: of all paths with these steps the one that is written down
abbrev pub path_of : Steps → Path
path_of steps = record { depth = length steps; steps = steps ++ replicate (64 - length steps) 0 }
