use Rattle.std.proofs.Common.{◌≡◌, [], sym, subst, to_z, w64, arith}
use Rattle.std.proofs.lemmas.Int.{ints}
use Rattle.std.specs.List.{All}
use Rattle.std.proofs.lemmas.List.Elements.{All-cons, All-nil}
use Rattle.layout_rules.specs.promise.Layout.{natural}
use Rattle.arr_export.specs.ArrayTrees.{IsColumn}
use Rattle.list_cols.proofs.nest_alone.table_of_one.Goals as goal

pub export_table-requires-clause-columns : goal.export_table-requires-clause-columns
export_table-requires-clause-columns c =
    let rows = c.args.rows in
    let whole : rows ≡ natural (to_z w64 rows) = omega (arith, ints, c.requires.few) in
    subst (λ n. All (IsColumn n) c.in_ok-columns.columns.items) whole
    (subst (All (IsColumn rows)) (sym c.in_ok-columns.ensures.child) (All-cons (IsColumn rows) c.args.column [] c.requires.column (All-nil (IsColumn rows))))
