use Rattle.std.proofs.Common.{◌≡◌, ◌≤◌, ◌*◌, ◌-◌}
use Rattle.data_types.specs.Packed.{clear_count}
use Rattle.bit_pack.proofs.bits.clear_bits_of_bytes.Given as goal

abbrev pub invariant-loop-i : goal.invariant-loop-i
invariant-loop-i l = record { count : l.clear ≡ clear_count l.bytes (8 * l.first) (8 * (l.i - l.first)); bound : l.clear ≤ 8 * (l.i - l.first) }
