use Rattle.std.proofs.Common.{ℕ, ◌++◌, List, length}
use Rattle.data_types.specs.promise.Table.{Row}
use Rattle.array_laws.specs.Pieces.{border, joined_pieces}
use Rattle.total_stage.specs.Sums.{AreParts, AreSums}
use Rattle.total_stage.proofs.sums.join_parts.Given as goal

-- the totals with the pieces before this one
abbrev pub invariant-loop-part : goal.invariant-loop-part
invariant-loop-part l = (picks : List ℕ) (before rows : List Row) → AreSums l.fn.sums picks before → AreParts picks rows l.workers l.parts
    → AreSums l.sums picks (before ++ joined_pieces (border (length rows) l.workers) rows l.part-index)
