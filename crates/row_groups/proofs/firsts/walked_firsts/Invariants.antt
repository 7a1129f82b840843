use Rattle.std.proofs.Common.{◌+◌, ◌≤◌, List, ℕ, length}
use Rattle.row_groups.specs.ItemKeys.{item_of, stored_as}
use Rattle.row_groups.specs.Items.{most_groups}
use Rattle.row_groups.specs.Walk.{IsWalked}
use Rattle.row_groups.proofs.firsts.walked_firsts.Given as goal

-- the items so far have numbers, which are few
abbrev pub invariant-loop-i : goal.invariant-loop-i
invariant-loop-i l = record {
  walked : (numbers : List ℕ) × IsWalked l.numbering (stored_as l.column) (λ i. item_of l.column (l.start + i)) l.i numbers l.firsts.items;
  few : length l.firsts.items ≤ most_groups;
}
