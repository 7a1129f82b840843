use Rattle.std.proofs.Common.{◌≡◌, ℕ, length}
use Rattle.data_types.specs.promise.Value.{Value}
use Rattle.layout_rules.specs.promise.Values.{each}
use Rattle.value_text.specs.Lengths.{AreLengths, capped}
use Rattle.value_text.proofs.Parts.{parts}
use Rattle.value_text.proofs.lengths.own_list.Given as goal

-- the items so far
abbrev pub invariant-loop-k : goal.invariant-loop-k
invariant-loop-k l = (item : ℕ → Value) → AreLengths l.lengths item (length l.lengths) → l.sum ≡ capped (length (parts (each item l.from l.k)))
