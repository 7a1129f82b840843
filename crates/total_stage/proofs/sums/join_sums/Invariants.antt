use Rattle.std.proofs.Common.{ℕ, List}
use Rattle.data_types.specs.promise.Table.{Row}
use Rattle.total_stage.specs.Sums.{AreSums}
use Rattle.total_stage.proofs.Joining.{AreJoined}
use Rattle.total_stage.proofs.sums.join_sums.Given as goal

-- the others were added to the columns before this one
abbrev pub invariant-loop-k : goal.invariant-loop-k
invariant-loop-k l = (picks : List ℕ) (rows more : List Row) → AreSums l.fn.sums picks rows → AreSums l.others picks more
    → AreJoined l.sums l.fn.sums picks l.k rows more
