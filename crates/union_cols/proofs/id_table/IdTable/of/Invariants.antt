use Rattle.std.proofs.Common.{take}
use Rattle.union_cols.proofs.Tables.{IsTable}
use Rattle.union_cols.proofs.id_table.IdTable.of.Given as goal

-- the ids so far have their places
abbrev pub invariant-loop-k : goal.invariant-loop-k
invariant-loop-k l = IsTable (take l.k l.ids) l.places
