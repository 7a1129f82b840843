use Rattle.std.proofs.Common.{◌≡◌, ◌∙◌, ap, subst, length, arith}
use Rattle.std.specs.Prelude.{IfOk}
use Rattle.tree_model.specs.promise.TreeParts.{children_of}
use Rattle.tree_model.specs.promise.TreeData.{trees}
use Rattle.tree_model.specs.Tree.{depth_of_all}
use Rattle.arr_export.proofs.Each.{length-each}
use Rattle.arr_move.specs.TreeActs.{with_children}
use Rattle.raw_schema.specs.promise.Members.{SchemaTree}
use Rattle.arr_move.specs.Fields.{fields_over}
use Rattle.list_cols.specs.NestedFields.{new_field}
use Rattle.list_cols.proofs.NestedPlaces.{fields-shallow, over-all}
use Rattle.list_cols.proofs.nest_schema.nested_schema.Goals as goal

pub with_fields-requires-clause-places : goal.with_fields-requires-clause-places
with_fields-requires-clause-places c =
    ap length c.in-Ok.ensures.fields ∙ length-each (new_field c.args.column c.args.schema) 0 (length (children_of c.args.schema))

pub with_fields-requires-clause-shallow : goal.with_fields-requires-clause-shallow
with_fields-requires-clause-shallow c =
    let e = ap (λ fs. depth_of_all (trees fs)) c.in-Ok.ensures.fields in
    omega (arith, e, fields-shallow c.args.column c.args.schema 0 (length (children_of c.args.schema)))

pub returns-in-Ok-clause-made : goal.returns-in-Ok-clause-made
returns-in-Ok-clause-made c =
    let schema = c.args.schema in
    let same = ap (λ fs. with_children schema (fields_over fs (children_of schema))) c.in-Ok.ensures.fields
    ∙ ap (with_children schema) (over-all c.args.column schema) in
    subst (λ (u : SchemaTree). IfOk c.with_fields.result (λ made. made ≡ u)) same c.with_fields.ensures.made
