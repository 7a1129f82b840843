use Rattle.std.proofs.Common.{◌≡◌, ◌+◌, length, take}
use Rattle.std.specs.List.{flat_map}
use Rattle.value_text.specs.Lengths.{capped}
use Rattle.data_types.specs.promise.ValueTexts.{byte_text}
use Rattle.value_text.proofs.lengths.bytes_length.Given as goal

-- the texts of the bytes so far, behind `=`
abbrev pub invariant-loop-byte : goal.invariant-loop-byte
invariant-loop-byte l = l.sum ≡ capped (1 + length (flat_map byte_text (take l.byte-index l.bytes)))
