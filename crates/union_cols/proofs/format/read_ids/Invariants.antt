use Rattle.std.proofs.Common.{◌≡◌, ◌<◌, ◌++◌, length}
use Rattle.union_cols.specs.promise.UnionFormats.{AreIds, ids_before}
use Rattle.union_cols.proofs.format.read_ids.Given as goal

-- the ids so far are before what is left
abbrev pub invariant-loop-id : goal.invariant-loop-id
invariant-loop-id l = record { ids : AreIds l.ids.items; some : 0 < length l.list; split : l.list ≡ ids_before l.ids.items ++ l.left }

abbrev pub decreases-loop-id : goal.decreases-loop-id
decreases-loop-id l = length l.left
