use Rattle.std.proofs.Common.{◌≡◌, ◌≤◌, length, map, take, vec_len, vec_capacity}
use Rattle.list_cols.specs.NestedGroups.{run_at}
use Rattle.list_cols.proofs.nest_alone.once_each.Given as goal

-- the runs so far, and room for the others
abbrev pub invariant-loop-first : goal.invariant-loop-first
invariant-loop-first l = record {
  runs : l.runs.items ≡ map (run_at l.start) (take l.first-index l.firsts);
  count : vec_len l.runs ≡ l.first-index;
  room : length l.firsts ≤ vec_capacity l.runs;
}
