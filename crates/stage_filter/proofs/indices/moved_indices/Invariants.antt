use Rattle.std.proofs.Common.{take}
use Rattle.col_build.specs.Holding.{Holds}
use Rattle.stage_filter.specs.KeptTrees.{index_type, indices_at}
use Rattle.stage_filter.proofs.indices.moved_indices.Given as goal

-- the builder holds the indices of the numbers so far
abbrev pub invariant-loop-i : goal.invariant-loop-i
invariant-loop-i l = Holds l.builder index_type (indices_at l.array l.start (take l.i-index l.kept))
