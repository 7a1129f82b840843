use Rattle.std.proofs.Common.{◌≡◌, ◌∙◌, ◌+◌, ◌-◌, ap, subst, length, arith}
use Rattle.std.specs.Prelude.{IfOk, MatchResult}
use Rattle.tree_model.specs.promise.TreeParts.{child_at, children_of}
use Rattle.tree_model.specs.promise.TreeData.{trees}
use Rattle.tree_model.specs.Tree.{depth_of_all}
use Rattle.arr_move.specs.TreeActs.{with_children}
use Rattle.tree_model.specs.promise.TreeCost.{Nodes}
use Rattle.raw_schema.specs.promise.Members.{SchemaTree}
use Rattle.raw_schema.specs.Members.{nodes_of_all}
use Rattle.arr_move.specs.Fields.{fields_over}
use Rattle.list_cols.specs.Fields.{item_field}
use Rattle.list_cols.proofs.OneField.{one-nodes, one-put, one-shallow}
use Rattle.list_cols.proofs.fields.spread_schema.Goals as goal

pub with_fields-requires-clause-shallow : goal.with_fields-requires-clause-shallow
with_fields-requires-clause-shallow c =
    let schema = c.args.schema in
    let e = ap (λ fs. depth_of_all (trees fs)) c.in-Ok.ensures.fields in
    let low = one-shallow c.args.column (length (children_of schema) - (c.args.column + 1)) (item_field (child_at schema c.args.column)) (omega arith) in
    omega (arith, e, low)

pub with_fields-requires-clause-room : goal.with_fields-requires-clause-room
with_fields-requires-clause-room c =
    let schema = c.args.schema in
    let e = ap (λ fs. nodes_of_all (trees fs)) c.in-Ok.ensures.fields in
    let one = one-nodes c.args.column (length (children_of schema) - (c.args.column + 1)) (item_field (child_at schema c.args.column)) in
    omega (arith, e, one, c.in-Ok.ensures.units, c.requires.room)

pub returns-in-Ok-clause-made : goal.returns-in-Ok-clause-made
returns-in-Ok-clause-made c =
    let schema = c.args.schema in
    let column = c.args.column in
    let f = item_field (child_at schema column) in
    let olds = children_of schema in
    let many : column + (1 + (length olds - (column + 1))) ≡ length olds = omega (arith, c.requires.inside) in
    let same = ap (λ fs. with_children schema (fields_over fs olds)) c.in-Ok.ensures.fields
    ∙ one-put schema column (length olds - (column + 1)) f tt many in
    subst (λ (u : SchemaTree). IfOk c.with_fields.result (λ made. made ≡ u)) same c.with_fields.ensures.made

pub returns-in-Ok-clause-units : goal.returns-in-Ok-clause-units
returns-in-Ok-clause-units c =
    let schema = c.args.schema in
    let e = ap (λ fs. nodes_of_all (trees fs)) c.in-Ok.ensures.fields in
    let one = one-nodes c.args.column (length (children_of schema) - (c.args.column + 1)) (item_field (child_at schema c.args.column)) in
    let between = c.item_fields.new.pass.units in
    let now = c.with_fields.new.pass.units in
    let old = c.args.pass.now.units in
    let more = nodes_of_all (trees c.in-Ok.fields.items) in
    let done : between + (Nodes schema + more) ≡ old + Nodes schema = omega (arith, e, one, c.in-Ok.ensures.units) in
    let back : between + more ≡ old = omega (arith, e, one, c.in-Ok.ensures.units) in
    subst (λ n. MatchResult c.with_fields.result (λ made. now + Nodes made ≡ n) (λ x. now ≡ old)) done
    (subst (λ n. MatchResult c.with_fields.result (λ made. now + Nodes made ≡ between + (Nodes schema + more)) (λ x. now ≡ n)) back
    c.with_fields.ensures.units)
