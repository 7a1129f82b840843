use Rattle.std.proofs.Common.{[], ◌∷◌, refl, arith}
use Rattle.column_fill.specs.Tables.{index_type}
use Rattle.run_tests.proofs.Fitting.{takes-place}
use Rattle.run_tests.specs.Own.{whole}
use Rattle.run_tests.proofs.chunk.places.Goals as goal

pub add-requires-2 : goal.add-requires-2
add-requires-2 c = record {
  takes = takes-place 1 (whole 0 ∷ []) c.add.new.self (omega arith) refl (c.in_ok-add.ensures.added index_type [] c.new-builder.ensures);
}

pub add-requires-3 : goal.add-requires-3
add-requires-3 c =
    let one = c.in_ok-add.ensures.added index_type [] c.new-builder.ensures in
    let two = c.in_ok-add-2.ensures.added index_type (whole 0 ∷ []) one in
    record { takes = takes-place 0 (whole 0 ∷ whole 1 ∷ []) c.add-2.new.self (omega arith) refl two }

pub returns : goal.returns
returns c =
    let one = c.in_ok-add.ensures.added index_type [] c.new-builder.ensures in
    let two = c.in_ok-add-2.ensures.added index_type (whole 0 ∷ []) one in
    c.in_ok-add-3.ensures.added index_type (whole 0 ∷ whole 1 ∷ []) two
