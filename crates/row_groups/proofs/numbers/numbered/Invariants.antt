use Rattle.std.proofs.Common.{◌+◌}
use Rattle.row_groups.specs.ItemKeys.{item_of, stored_as}
use Rattle.row_groups.specs.Walk.{IsWalked}
use Rattle.row_groups.proofs.numbers.numbered.Given as goal

-- the items so far have their numbers
abbrev pub invariant-loop-i : goal.invariant-loop-i
invariant-loop-i l = IsWalked l.numbering (stored_as l.column) (λ i. item_of l.column (l.start + i)) l.i l.numbers.items l.firsts.items
