use Rattle.std.proofs.Common.{◌≡◌, ◌∙◌, ◌<◌, length, map, to_z, w64, ap, sym, subst, arith}
use Rattle.std.proofs.lemmas.Int.{ints}
use Rattle.std.proofs.lemmas.List.{length-map}
use Rattle.std.specs.List.{All}
use Rattle.tree_model.specs.promise.TreeParts.{children_of}
use Rattle.data_types.specs.promise.KindTrees.{kind_in}
use Rattle.data_types.specs.promise.TypedView.{typed_of}
use Rattle.data_types.specs.TypedView.{kids_of}
use Rattle.layout_rules.specs.promise.Layout.{natural}
use Rattle.layout_rules.specs.promise.Values.{each, rows_of}
use Rattle.arr_export.specs.promise.ArrayTrees.{table_tree}
use Rattle.arr_export.specs.ArrayTrees.{IsColumn}
use Rattle.arr_export.proofs.Each.{length-each}
use Rattle.list_cols.specs.promise.NestedTables.{keys_of, nested_column}
use Rattle.list_cols.proofs.Kids.{kids-are}
use Rattle.list_cols.proofs.NestedNodes.{nodes-all}
use Rattle.list_cols.proofs.NestedWhole.{all-columns, few-keys, many-rows}
use Rattle.list_cols.proofs.nest_table.grouped_table.Goals as goal

pub nested_columns-requires-clause-units : goal.nested_columns-requires-clause-units
nested_columns-requires-clause-units c = omega (arith, c.requires.narrow, c.requires.units)

pub export_table-requires-clause-units : goal.export_table-requires-clause-units
export_table-requires-clause-units c = omega (arith, c.in_ok-columns.ensures.left, c.requires.narrow, c.requires.units)

pub export_table-requires-clause-few_rows : goal.export_table-requires-clause-few_rows
export_table-requires-clause-few_rows c =
    let typed = typed_of c.args.typed.now in
    let rows = rows_of typed c.args.array.now in
    let few : length (keys_of c.args.column rows) < 2147483648 = omega (arith, few-keys c.args.column rows, many-rows typed c.args.array.now, c.requires.few) in
    omega (arith, ints, c.len.ensures, c.in_ok-groups.ensures.are.firsts, few)

pub export_table-requires-clause-few_columns : goal.export_table-requires-clause-few_columns
export_table-requires-clause-few_columns c =
    let typed = typed_of c.args.typed.now in
    let f = nested_column c.args.column (map kind_in (children_of typed)) (rows_of typed c.args.array.now) in
    let many = ap length c.in_ok-columns.ensures.columns ∙ length-each f 0 (length (kids_of c.args.typed.now)) in
    omega (arith, many, c.requires.narrow)

pub export_table-requires-clause-columns : goal.export_table-requires-clause-columns
export_table-requires-clause-columns c =
    let typed = typed_of c.args.typed.now in
    let rows = rows_of typed c.args.array.now in
    let types = map kind_in (children_of typed) in
    let few : length (keys_of c.args.column rows) < 2147483648 = omega (arith, few-keys c.args.column rows, many-rows typed c.args.array.now, c.requires.few) in
    let number : length (keys_of c.args.column rows) ≡ natural (to_z w64 c.len.result) =
    omega (arith, ints, c.len.ensures, c.in_ok-groups.ensures.are.firsts, few) in
    subst (λ n. All (IsColumn n) c.in_ok-columns.columns.items) number
    (subst (All (IsColumn (length (keys_of c.args.column rows)))) (sym c.in_ok-columns.ensures.columns)
    (all-columns c.args.column types rows (length (kids_of c.args.typed.now))))

pub returns-in-Ok-clause-made : goal.returns-in-Ok-clause-made
returns-in-Ok-clause-made c =
    let typed = typed_of c.args.typed.now in
    let rows = rows_of typed c.args.array.now in
    let types = map kind_in (children_of typed) in
    let few : length (keys_of c.args.column rows) < 2147483648 = omega (arith, few-keys c.args.column rows, many-rows typed c.args.array.now, c.requires.few) in
    let number : natural (to_z w64 c.len.result) ≡ length (keys_of c.args.column rows) =
    omega (arith, ints, c.len.ensures, c.in_ok-groups.ensures.are.firsts, few) in
    let width : length (kids_of c.args.typed.now) ≡ length types =
    sym (length-map (children_of typed) kind_in ∙ ap length (kids-are c.args.typed.now c.kinds_of_typed.ensures)) in
    c.in-Ok.ensures.tree
    ∙ (λ j. table_tree (number j) ((c.in_ok-columns.ensures.columns ∙ ap (each (nested_column c.args.column types rows) 0) width) j))

pub returns-in-Ok-clause-fits : goal.returns-in-Ok-clause-fits
returns-in-Ok-clause-fits c =
    let typed = typed_of c.args.typed.now in
    let rows = rows_of typed c.args.array.now in
    let width = length-map (children_of typed) kind_in ∙ ap length (kids-are c.args.typed.now c.kinds_of_typed.ensures) in
    record {
      columns = λ k lt. c.in_ok-columns.ensures.fits k (omega (arith, width, lt));
      few = omega (arith, few-keys c.args.column rows, many-rows typed c.args.array.now, c.requires.few);
    }

pub returns-in-Ok-clause-left : goal.returns-in-Ok-clause-left
returns-in-Ok-clause-left c = omega (arith, c.in-Ok.ensures.units, c.in_ok-columns.ensures.left, c.requires.narrow)

pub returns-in-Ok-clause-least : goal.returns-in-Ok-clause-least
returns-in-Ok-clause-least c =
    omega (
      arith,
      nodes-all 1 c.args.column (length (kids_of c.args.typed.now)) c.requires.inside,
      c.in-Ok.ensures.units,
      c.in_ok-columns.ensures.least,
      c.requires.inside,
    )

pub returns-in-Ok-clause-blocks : goal.returns-in-Ok-clause-blocks
returns-in-Ok-clause-blocks c =
    omega (
      arith,
      nodes-all 1 c.args.column (length (kids_of c.args.typed.now)) c.requires.inside,
      c.in-Ok.ensures.units,
      c.in_ok-columns.ensures.least,
      c.in_ok-columns.ensures.blocks,
      c.in-Ok.ensures.blocks,
      c.requires.inside,
    )

pub returns-in-Ok-clause-nodes : goal.returns-in-Ok-clause-nodes
returns-in-Ok-clause-nodes c =
    omega (
      arith,
      nodes-all 1 c.args.column (length (kids_of c.args.typed.now)) c.requires.inside,
      c.in_ok-columns.ensures.nodes,
      c.in-Ok.ensures.nodes,
      c.requires.inside,
    )
