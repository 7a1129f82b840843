use Rattle.std.proofs.Common.{◌≡◌, ◌∙◌, All, List, ℕ, length, pos, to_z, w64, ap, sym, subst, arith}
use Rattle.std.proofs.lemmas.Int.{ints}
use Rattle.std.proofs.lemmas.List.{length-map}
use Rattle.arr_export.specs.promise.ArrayTrees.{table_tree}
use Rattle.arr_export.specs.ArrayTrees.{IsColumn}
use Rattle.arr_export.specs.ValueColumns.{tree_of}
use Rattle.data_types.specs.promise.TypedView.{typed_of}
use Rattle.layout_rules.specs.promise.Layout.{natural}
use Rattle.layout_rules.specs.promise.Values.{rows_of}
use Rattle.raw_array.specs.promise.Members.{ArrayTree}
use Rattle.list_cols.specs.promise.Exploded.{exploded_kinds}
use Rattle.list_cols.specs.Exploded.{exploded_columns}
use Rattle.list_cols.specs.promise.Nested.{Explode}
use Rattle.list_cols.proofs.Chunks.{many-kinds}
use Rattle.list_cols.proofs.NewColumns.{are-columns, many-columns}
use Rattle.list_cols.proofs.table.made_table.Goals as goal

pub export_table-requires-clause-few_columns : goal.export_table-requires-clause-few_columns
export_table-requires-clause-few_columns c =
    let t = typed_of c.args.typed.now in
    let column = c.args.column in
    let rows = Explode column (rows_of t c.args.array.now) in
    omega (
      arith,
      ap length c.in_ok-columns.ensures.columns,
      length-map (exploded_columns column t c.args.array.now) tree_of,
      many-columns (exploded_kinds column t) 0 rows,
      many-kinds column t,
      c.requires.few,
    )

pub export_table-requires-clause-columns : goal.export_table-requires-clause-columns
export_table-requires-clause-columns c =
    let t = typed_of c.args.typed.now in
    let column = c.args.column in
    let rows = Explode column (rows_of t c.args.array.now) in
    let whole : to_z w64 c.args.rows ≡ pos c.args.rows = omega (arith, ints, c.requires.short) in
    let many = ap natural whole ∙ c.requires.rows in
    subst (λ (n : ℕ). All (IsColumn n) c.in_ok-columns.columns.items) (sym many)
    (subst (λ (cs : List ArrayTree). All (IsColumn (length rows)) cs) (sym c.in_ok-columns.ensures.columns) (are-columns (exploded_kinds column t) 0 rows))

pub returns-in-Ok-clause-made : goal.returns-in-Ok-clause-made
returns-in-Ok-clause-made c =
    let whole : to_z w64 c.args.rows ≡ pos c.args.rows = omega (arith, ints, c.requires.short) in
    let many = ap natural whole ∙ c.requires.rows in
    c.in-Ok.ensures.tree ∙ (λ j. table_tree (many j) (c.in_ok-columns.ensures.columns j))
