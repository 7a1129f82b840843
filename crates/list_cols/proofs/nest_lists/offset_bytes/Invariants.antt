use Rattle.std.proofs.Common.{◌≡◌, take}
use Rattle.std.specs.List.{flat_map}
use Rattle.data_types.specs.promise.Packed.{le_bytes}
use Rattle.list_cols.proofs.nest_lists.offset_bytes.Given as goal

-- the bytes of the offsets so far
abbrev pub invariant-loop-offset : goal.invariant-loop-offset
invariant-loop-offset l = l.bytes.items ≡ flat_map (le_bytes 4) (take l.offset-index l.offsets)
