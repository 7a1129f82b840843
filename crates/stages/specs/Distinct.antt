-- The columns that a step picks.
use Rattle.std.specs.Prelude.{◌++◌}
use Rattle.arr_move.specs.TreeActs.{Distinct}
use Rattle.stage_model.specs.declared.stage.Step.{Step}
use Rattle.stage_model.specs.declared.stage.Step.TheVariants as steps

-- no column is picked twice, where a step picks columns
abbrev pub DistinctPicks : Step → Type 0
DistinctPicks (steps.Select picks) = Distinct picks
DistinctPicks (steps.Pack rest picks) = Distinct (rest ++ picks)
DistinctPicks _ = Unit {0}
