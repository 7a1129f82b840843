use Rattle.std.proofs.Common.{◌≡◌, ◌++◌, take}
use Rattle.std.specs.List.{flat_map}
use Rattle.data_types.specs.promise.ValueTexts.{byte_text}
use Rattle.value_text.proofs.escapes.push_each.Given as goal

-- the bytes so far are written
abbrev pub invariant-loop-byte : goal.invariant-loop-byte
invariant-loop-byte l = l.text ≡ l.initial.text ++ flat_map byte_text (take l.byte-index l.bytes)
