use Rattle.std.proofs.Common.{[], ◌∷◌, pos, refl, arith}
use Rattle.data_types.specs.promise.Value.{Whole}
use Rattle.number_stream.proofs.Fitting.{takes}
use Rattle.number_stream.specs.Numbers.{numbers}
use Rattle.number_stream.proofs.chunk.numbers.Goals as goal

pub add-requires-2 : goal.add-requires-2
add-requires-2 c = record {
  takes = takes 2 (Whole (pos 1) ∷ []) c.add.new.self (omega arith) refl (c.in_ok-add.ensures.added numbers.kind [] c.new-builder.ensures);
}

pub add-requires-3 : goal.add-requires-3
add-requires-3 c =
    let one = c.in_ok-add.ensures.added numbers.kind [] c.new-builder.ensures in
    let two = c.in_ok-add-2.ensures.added numbers.kind (Whole (pos 1) ∷ []) one in
    record { takes = takes 3 (Whole (pos 1) ∷ Whole (pos 2) ∷ []) c.add-2.new.self (omega arith) refl two }

pub returns : goal.returns
returns c =
    let one = c.in_ok-add.ensures.added numbers.kind [] c.new-builder.ensures in
    let two = c.in_ok-add-2.ensures.added numbers.kind (Whole (pos 1) ∷ []) one in
    c.in_ok-add-3.ensures.added numbers.kind (Whole (pos 1) ∷ Whole (pos 2) ∷ []) two
