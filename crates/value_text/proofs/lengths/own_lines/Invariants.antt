use Rattle.std.proofs.Common.{◌≡◌, ◌+◌, ℕ, length}
use Rattle.std.specs.List.{flat_map}
use Rattle.data_types.specs.promise.Value.{Value}
use Rattle.layout_rules.specs.promise.Values.{each}
use Rattle.value_text.specs.Lengths.{AreLengths, capped}
use Rattle.data_types.specs.promise.ValueTexts.{value_line}
use Rattle.value_text.proofs.lengths.own_lines.Given as goal

-- the lines so far, behind that of `ok`
abbrev pub invariant-loop-i : goal.invariant-loop-i
invariant-loop-i l =
    (item : ℕ → Value) → AreLengths l.lengths item (length l.lengths) → l.sum ≡ capped (3 + length (flat_map value_line (each item 0 l.i)))
