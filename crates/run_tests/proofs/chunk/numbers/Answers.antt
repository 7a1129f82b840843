use Rattle.std.proofs.Common.{[], ◌∷◌, refl, arith}
use Rattle.run_tests.proofs.Fitting.{takes-number}
use Rattle.run_tests.specs.Own.{long, whole}
use Rattle.run_tests.proofs.chunk.numbers.Goals as goal

pub add-requires-2 : goal.add-requires-2
add-requires-2 c = record {
  takes = takes-number 2 (whole 1 ∷ []) c.add.new.self (omega arith) refl (c.in_ok-add.ensures.added long [] c.new-builder.ensures);
}

pub add-requires-3 : goal.add-requires-3
add-requires-3 c =
    let one = c.in_ok-add.ensures.added long [] c.new-builder.ensures in
    let two = c.in_ok-add-2.ensures.added long (whole 1 ∷ []) one in
    record { takes = takes-number 3 (whole 1 ∷ whole 2 ∷ []) c.add-2.new.self (omega arith) refl two }

pub returns : goal.returns
returns c =
    let one = c.in_ok-add.ensures.added long [] c.new-builder.ensures in
    let two = c.in_ok-add-2.ensures.added long (whole 1 ∷ []) one in
    c.in_ok-add-3.ensures.added long (whole 1 ∷ whole 2 ∷ []) two
