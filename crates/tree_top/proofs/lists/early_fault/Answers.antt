use Rattle.std.proofs.Common.{◌≤◌, length, ap, arith}
use Rattle.arr_import.proofs.Reading.{kids-typed}
use Rattle.tree_top.proofs.lists.early_fault.Goals as goal

pub is_exploded_too_long-requires-clause-rows : goal.is_exploded_too_long-requires-clause-rows
is_exploded_too_long-requires-clause-rows c = c.in_ok-rows.ensures.0

pub is_exploded_too_long-requires-clause-named : goal.is_exploded_too_long-requires-clause-named
is_exploded_too_long-requires-clause-named c = omega (arith, c.in_ok-rows.ensures.0, c.in_ok-rows.ensures.1)

pub wrong_to_explode-requires : goal.wrong_to_explode-requires
wrong_to_explode-requires c =
    let kids = ap length (kids-typed c.args.typed.now c.kinds_of_typed.ensures) in
    record { few = omega (arith, kids, c.requires.few) }
