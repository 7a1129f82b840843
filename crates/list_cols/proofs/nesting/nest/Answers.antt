use Rattle.std.proofs.Common.{◌≡◌, None, length, map, ap, sym, subst, arith, rules}
use Rattle.tree_model.specs.promise.TreeParts.{children_of}
use Rattle.raw_array.specs.promise.Members.{Cost}
use Rattle.raw_schema.specs.promise.Members.{SchemaTree}
use Rattle.data_types.specs.promise.KindTrees.{kind_in}
use Rattle.data_types.specs.promise.TypedView.{typed_of}
use Rattle.layout_rules.specs.promise.Values.{rows_of}
use Rattle.layout_rules.specs.promise.Walk.{ChunkOk}
use Rattle.schema_check.specs.promise.Schemas.{TypedOf}
use Rattle.list_cols.specs.promise.Faults.{first_wrong}
use Rattle.list_cols.specs.Faults.{nests}
use Rattle.list_cols.specs.NestedTables.{nested_type}
use Rattle.list_cols.proofs.Kids.{kids-are, level-live}
use Rattle.list_cols.proofs.NestedNodes.{nodes-all}
use Rattle.list_cols.proofs.NestedSchemas.{all-flat, live-fields, many-fields}
use Rattle.list_cols.proofs.NestedWhole.{many-rows}
use Rattle.list_cols.proofs.nesting.nest.Goals as goal

pub wrong_to_nest-requires : goal.wrong_to_nest-requires
wrong_to_nest-requires c = record { few = omega (arith, ap length (kids-are c.args.typed.now c.kinds_of_typed.ensures), c.requires.few) }

pub nested_schema-requires-clause-fields : goal.nested_schema-requires-clause-fields
nested_schema-requires-clause-fields c = live-fields c.args.schema (typed_of c.args.typed.now) c.requires.schema

pub nested_schema-requires-clause-units : goal.nested_schema-requires-clause-units
nested_schema-requires-clause-units c =
    omega (arith, many-fields c.args.schema (typed_of c.args.typed.now) c.requires.schema, c.requires.few, c.in-Ok.ensures.left, c.requires.units)

pub returns-in-Ok-nested_schema-clause-types : goal.returns-in-Ok-nested_schema-clause-types
returns-in-Ok-nested_schema-clause-types c =
    let typed = typed_of c.args.typed.now in
    let top = c.chunks_are_tables.ensures.chunk typed c.args.array (level-live c.args.typed.now c.kinds_of_typed.ensures) c.requires.chunk in
    let none : first_wrong nests 0 (children_of typed) ≡ None = search rules in
    let flat = all-flat c.flat_types_have_no_children.ensures typed c.requires.types none in
    let law = c.nested_schemas_have_their_kinds.ensures c.args.column c.args.schema typed c.requires.schema top.kind top.dict flat in
    subst (λ (s : SchemaTree). TypedOf s (nested_type c.args.column typed)) (sym c.in-Ok-nested_schema.ensures.made) law

pub returns-in-Ok-nested_schema-clause-chunk : goal.returns-in-Ok-nested_schema-clause-chunk
returns-in-Ok-nested_schema-clause-chunk c =
    let typed = typed_of c.args.typed.now in
    let types = map kind_in (children_of typed) in
    subst (ChunkOk (nested_type c.args.column typed)) (sym c.in-Ok.ensures.made)
    (c.nested_tables_have_their_rows.ensures.chunk c.args.column types (rows_of typed c.args.array) c.in-Ok.ensures.fits)

pub returns-in-Err-clause-many : goal.returns-in-Err-clause-many
returns-in-Err-clause-many c none wide more =
    c.in-Err.ensures.many (omega (arith, ap length (kids-are c.args.typed.now c.kinds_of_typed.ensures), wide))
    (omega (arith, many-rows (typed_of c.args.typed.now) c.args.array, more))

pub returns-in-Ok-nested_schema-clause-nodes : goal.returns-in-Ok-nested_schema-clause-nodes
returns-in-Ok-nested_schema-clause-nodes c =
    let kids = ap length (kids-are c.args.typed.now c.kinds_of_typed.ensures) in
    let fields = many-fields c.args.schema (typed_of c.args.typed.now) c.requires.schema in
    let lists = nodes-all 0 c.args.column (length (children_of c.args.schema)) (omega (arith, fields, c.requires.inside)) in
    omega (arith, kids, fields, lists, c.requires.inside, c.in-Ok.ensures.nodes, c.in-Ok-nested_schema.ensures.nodes, c.end.ensures.nodes)

pub returns-in-Ok-nested_schema-clause-blocks : goal.returns-in-Ok-nested_schema-clause-blocks
returns-in-Ok-nested_schema-clause-blocks c =
    let kids = ap length (kids-are c.args.typed.now c.kinds_of_typed.ensures) in
    let cost = ap Cost c.in-Ok.ensures.made in
    omega (arith, kids, cost, c.in-Ok.ensures.units, c.in-Ok.ensures.blocks, c.in-Ok-nested_schema.ensures.blocks, c.end.ensures.blocks)
