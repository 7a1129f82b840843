use Rattle.data_types.specs.promise.TypedView.{typed_of}
use Rattle.layout_rules.specs.promise.Values.{value_at}
use Rattle.value_text.specs.Lengths.{AreLengths}
use Rattle.value_text.proofs.measure.item_lengths.Given as goal

-- the items so far
abbrev pub invariant-loop-i : goal.invariant-loop-i
invariant-loop-i l = AreLengths l.lengths.items (value_at (typed_of l.typed) l.array) l.i
