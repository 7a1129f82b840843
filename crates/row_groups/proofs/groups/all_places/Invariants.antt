use Rattle.std.proofs.Common.{◌≡◌, ◌≤◌, vec_len, vec_capacity}
use Rattle.layout_rules.specs.promise.Values.{each}
use Rattle.row_groups.proofs.groups.all_places.Given as goal

-- the places before this one, in the room that was taken for all
abbrev pub invariant-loop-i : goal.invariant-loop-i
invariant-loop-i l = record {
  places : l.places.items ≡ each (λ k. k) 0 l.i;
  len : vec_len l.places ≡ l.i;
  room : l.count ≤ vec_capacity l.places;
}
