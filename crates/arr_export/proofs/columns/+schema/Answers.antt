use Rattle.std.proofs.Common.{◌≡◌, ◌∙◌, ◌+◌, ◌<◌, ◌++◌, ◌∷◌, [], ap, arith, sym, subst, rules, length, map, take, get_or, List, ℕ, Some, IfOk}
use Rattle.std.proofs.lemmas.List.{length-map}
use Rattle.data_types.specs.ColumnView.{kind_of}
use Rattle.data_types.specs.declared.kind.ColKind.{ColKind}
use Rattle.data_types.specs.declared.kind.ColumnType.{ColumnType}
use Rattle.tree_model.specs.promise.TreeData.{absent, trees}
use Rattle.tree_model.specs.Tree.{Depth}
use Rattle.tree_model.proofs.Measures.{cost_of_all-append}
use Rattle.tree_model.specs.promise.TreeCost.{Nodes, no_holds}
use Rattle.raw_schema.specs.promise.Members.{SchemaTree}
use Rattle.raw_schema.specs.Members.{nodes_of_all}
use Rattle.schema_check.specs.promise.ColumnSchema.{column_schema, node, nullable, struct_format}
use Rattle.schema_check.specs.ColumnSchema.{KindsOk}
use Rattle.arr_export.specs.CodeSchema.{ColumnsOk, code_schema, code_schemas}
use Rattle.arr_export.proofs.Costs.{depth-here, few-columns, map-more, nodes-here}
use Rattle.arr_export.proofs.Rows.{struct-kinds, struct-schema}
use Rattle.arr_export.proofs.columns.+schema.Goals as goal

-- ---- a column that is a struct
pub column_schema-struct_schema-requires : goal.column_schema-struct_schema-requires
column_schema-struct_schema-requires t c =
    let is : column_schema c.args.name.now (kind_of c.args.kind.now)
    ≡ node struct_format (Some c.args.name.now) nullable (code_schemas c.as_slice.result.now) absent =
    ap (λ (k : ColKind). column_schema c.args.name.now (kind_of k)) c.in-Columns.is ∙ struct-schema c.args.name.now c.in-Columns.columns
    ∙ ap (λ (cs : List ColumnType). node struct_format (Some c.args.name.now) nullable (code_schemas cs) absent) (sym c.as_slice.ensures.value) in
    let nodes = ap Nodes is in
    let depth = ap Depth is in
    let kinds : ColumnsOk c.as_slice.result.now =
    subst ColumnsOk (sym c.as_slice.ensures.value)
    (struct-kinds c.in-Columns.columns (subst (λ (k : ColKind). KindsOk (kind_of k)) c.in-Columns.is c.requires.kinds)) in
    search rules

pub column_schema-returns-in_ok-name-in-Columns-clause-tree : goal.column_schema-returns-in_ok-name-in-Columns-clause-tree
column_schema-returns-in_ok-name-in-Columns-clause-tree t c =
    let is : column_schema c.args.name.now (kind_of c.args.kind.now)
    ≡ node struct_format (Some c.args.name.now) nullable (code_schemas c.as_slice.result.now) absent =
    ap (λ (k : ColKind). column_schema c.args.name.now (kind_of k)) c.in-Columns.is ∙ struct-schema c.args.name.now c.in-Columns.columns
    ∙ ap (λ (cs : List ColumnType). node struct_format (Some c.args.name.now) nullable (code_schemas cs) absent) (sym c.as_slice.ensures.value) in
    subst (λ (x : SchemaTree). IfOk c.struct_schema.result (λ tree. tree ≡ x))
    (ap (λ (n : List ℕ). node struct_format (Some n) nullable (code_schemas c.as_slice.result.now) absent) c.in_ok-name-in-Columns.ensures ∙ sym is)
    c.struct_schema.ensures.tree

pub column_schema-returns-in_ok-name-in-Columns-clause-units : goal.column_schema-returns-in_ok-name-in-Columns-clause-units
column_schema-returns-in_ok-name-in-Columns-clause-units t c =
    let is : column_schema c.args.name.now (kind_of c.args.kind.now)
    ≡ node struct_format (Some c.args.name.now) nullable (code_schemas c.as_slice.result.now) absent =
    ap (λ (k : ColKind). column_schema c.args.name.now (kind_of k)) c.in-Columns.is ∙ struct-schema c.args.name.now c.in-Columns.columns
    ∙ ap (λ (cs : List ColumnType). node struct_format (Some c.args.name.now) nullable (code_schemas cs) absent) (sym c.as_slice.ensures.value) in
    let nodes : Nodes (column_schema c.args.name.now (kind_of c.args.kind.now))
    ≡ 1 + nodes_of_all (code_schemas c.as_slice.result.now) = omega (arith, ap Nodes is) in
    rw nodes c.struct_schema.ensures.units

pub column_schema-returns-in_ok-name-in-Columns-clause-nodes : goal.column_schema-returns-in_ok-name-in-Columns-clause-nodes
column_schema-returns-in_ok-name-in-Columns-clause-nodes t c =
    let is : column_schema c.args.name.now (kind_of c.args.kind.now)
    ≡ node struct_format (Some c.args.name.now) nullable (code_schemas c.as_slice.result.now) absent =
    ap (λ (k : ColKind). column_schema c.args.name.now (kind_of k)) c.in-Columns.is ∙ struct-schema c.args.name.now c.in-Columns.columns
    ∙ ap (λ (cs : List ColumnType). node struct_format (Some c.args.name.now) nullable (code_schemas cs) absent) (sym c.as_slice.ensures.value) in
    let nodes : Nodes (column_schema c.args.name.now (kind_of c.args.kind.now))
    ≡ 1 + nodes_of_all (code_schemas c.as_slice.result.now) = omega (arith, ap Nodes is) in
    rw nodes c.struct_schema.ensures.nodes

-- ---- the columns of a struct
pub struct_schema-built_schema-requires-clause-few_children : goal.struct_schema-built_schema-requires-clause-few_children
struct_schema-built_schema-requires-clause-few_children t c =
    let count : length c.in_ok-children.children.items ≡ length c.args.columns.now =
    ap length c.in_ok-children.ensures.trees ∙ length-map c.args.columns.now code_schema in
    omega (arith, count, few-columns c.args.columns.now, c.requires.small)

pub column_schemas-column_schema-requires : goal.column_schemas-column_schema-requires
column_schemas-column_schema-requires t c =
    let item = c.column-item.result in
    let i = c.loop-column.column-index in
    let columns = c.args.columns.now in
    let within : i < length columns = omega arith in
    let is : column_schema item.name (kind_of item.kind) ≡ code_schema (get_or columns i item) = ap code_schema c.column-item.is in
    let nodes = ap Nodes is in
    let depth = ap Depth is in
    let made = ap (λ (ts : List SchemaTree). nodes_of_all (trees ts)) c.loop-column.invariant.children in
    let here = nodes-here code_schema columns i item within in
    let deep = depth-here code_schema columns i item within in
    let kinds : KindsOk (kind_of item.kind) = subst (λ (x : ColumnType). KindsOk (kind_of x.kind)) (sym c.column-item.is) (c.requires.kinds i item within) in
    search rules

pub column_schemas-loop-column-preserved : goal.column_schemas-loop-column-preserved
column_schemas-loop-column-preserved t c =
    let item = c.column-item.result in
    let i = c.loop-column.column-index in
    let columns = c.args.columns.now in
    let child = c.in-Ok-column_schema.child in
    let within : i < length columns = omega arith in
    let is : column_schema item.name (kind_of item.kind) ≡ code_schema (get_or columns i item) = ap code_schema c.column-item.is in
    let tree = c.in-Ok-column_schema.ensures.tree in
    let cost = ap Nodes tree in
    let pushed : nodes_of_all (trees c.push_reserved.new.self.items) ≡ nodes_of_all (trees c.loop-column.children.items) + Nodes child =
    omega (
      arith,
      ap (λ (ts : List SchemaTree). nodes_of_all (trees ts)) c.push_reserved.ensures.items,
      cost_of_all-append no_holds c.loop-column.children.items (child ∷ []),
    ) in
    record {
      children = c.push_reserved.ensures.items
          ∙ ap (λ (ts : List SchemaTree). ts ++ child ∷ []) c.loop-column.invariant.children
          ∙ ap (λ (x : SchemaTree). map code_schema (take i columns) ++ x ∷ []) (tree ∙ is)
          ∙ sym (map-more code_schema columns i item within);
      count = omega (arith, c.push_reserved.ensures.len, c.loop-column.invariant.count);
      room = omega (arith, c.push_reserved.ensures.capacity, c.loop-column.invariant.room);
      units = omega (arith, pushed, cost, c.in-Ok-column_schema.ensures.units, c.loop-column.invariant.units);
      blocks = c.in-Ok-column_schema.ensures.blocks ∙ c.loop-column.invariant.blocks;
      nodes = omega (arith, pushed, cost, c.in-Ok-column_schema.ensures.nodes, c.loop-column.invariant.nodes);
    }
