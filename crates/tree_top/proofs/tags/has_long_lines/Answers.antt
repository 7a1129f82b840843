use Rattle.std.proofs.Common.{◌<◌, arith}
use Rattle.std.proofs.lemmas.Bool.Decides.{nat_tests}
use Rattle.data_types.specs.promise.TypedView.{typed_of}
use Rattle.layout_rules.specs.promise.Values.{row_items, tree_items}
use Rattle.tree_top.proofs.TagLines.{any-line, least-text}
use Rattle.tree_top.proofs.tags.has_long_lines.Goals as goal

pub returns-then-rows-clause-long : goal.returns-then-rows-clause-long
returns-then-rows-clause-long c = λ _.
    let rows = row_items (typed_of c.args.typed.now) c.args.array.now in
    omega (
      arith,
      c.row_count-rows.ensures,
      c.if-rows.true,
      least-text rows (tree_items c.args.array.now) 4 (λ i lt. any-line (rows i)),
    )

pub returns-clause-long : goal.returns-clause-long
returns-clause-long c = λ long.
    let rows = row_items (typed_of c.args.typed.now) c.args.array.now in
    let above : 2147483645 < c.saturating_mul.result = grind (arith, nat_tests, long) in
    grind (
      arith,
      c.row_count-rows.ensures,
      above,
      c.saturating_mul.ensures,
      least-text rows (tree_items c.args.array.now) c.least_line.result c.least_line.ensures,
    )
