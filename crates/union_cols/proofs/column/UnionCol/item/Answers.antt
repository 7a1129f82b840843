use Rattle.std.proofs.Common.{rules, ap, arith}
use Rattle.std.proofs.lemmas.Grind.{common_steps}
use Rattle.std.proofs.lemmas.Int.{ints}
use Rattle.arr_import.specs.Window.{Window}
use Rattle.union_cols.proofs.column.UnionCol.item.Goals as goal

pub returns-clause-inside : goal.returns-clause-inside
returns-clause-inside c =
    let count = ap (λ (w : Window). w.count) c.child.ensures in
    first_of (search rules, grind (arith, common_steps), omega (arith, ints))
