use Rattle.std.proofs.Common.{◌≡◌, ◌≤◌, ◌-◌, take, vec_len}
use Rattle.edge_io.proofs.whole.clear_to.Given as goal

-- the first bytes stay, and there are no more than are asked for
abbrev pub invariant-loop-bytes : goal.invariant-loop-bytes
invariant-loop-bytes l = record {
  behind : vec_len l.initial.bytes ≤ vec_len l.bytes;
  within : vec_len l.bytes ≤ l.end;
  kept : take (vec_len l.initial.bytes) l.bytes.items ≡ l.initial.bytes.items;
}

abbrev pub decreases-loop-bytes : goal.decreases-loop-bytes
decreases-loop-bytes l = l.end - vec_len l.bytes
