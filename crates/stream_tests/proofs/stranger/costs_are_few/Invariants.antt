use Rattle.std.proofs.Common.{◌≡◌, ◌-◌, ◌^◌, min, take}
use Rattle.tree_model.specs.promise.TreeData.{trees}
use Rattle.raw_array.specs.Members.{cost_of_all}
use Rattle.stream_tests.proofs.stranger.costs_are_few.Given as goal

abbrev pub invariant-loop-array : goal.invariant-loop-array
invariant-loop-array t l = l.total ≡ min (cost_of_all (trees (take l.array-index l.arrays))) (2 ^ 64 - 1)
