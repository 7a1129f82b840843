use Rattle.std.proofs.Common.{◌≡◌, ◌∙◌, ◌+◌, ◌++◌, [], ◌∷◌, ap, sym, arith}
use Rattle.tree_model.specs.promise.TreeData.{trees}
use Rattle.raw_schema.specs.Members.{nodes_of_all}
use Rattle.layout_rules.specs.promise.Values.{each}
use Rattle.list_cols.specs.NestedFields.{new_field}
use Rattle.list_cols.proofs.ListItems.{each-next}
use Rattle.list_cols.proofs.NestedNodes.{nodes-next}
use Rattle.list_cols.proofs.NestedPlaces.{nodes-append}
use Rattle.list_cols.proofs.nest_schema.new_fields.Goals as goal

pub loop-k-preserved : goal.loop-k-preserved
loop-k-preserved c =
    let f = new_field c.args.column c.args.schema.now in
    let k = c.loop-k.k in
    let start : k ≡ 0 + k = omega arith in
    let before = each f 0 k in
    let cost = ap (λ fs. nodes_of_all (trees fs)) c.push_reserved.ensures.items in
    let more = nodes-append c.loop-k.fields.items c.in-Ok-new_field.field in
    record {
      fields = c.push_reserved.ensures.items
          ∙ (λ t. c.loop-k.invariant.fields t ++ c.in-Ok-new_field.ensures.made t ∷ [])
          ∙ ap (λ n. before ++ f n ∷ []) start ∙ sym (each-next f 0 k);
      count = omega (arith, c.push_reserved.ensures.len, c.loop-k.invariant.count);
      room = omega (arith, c.push_reserved.ensures.capacity, c.loop-k.invariant.room);
      units = omega (arith, cost, more, c.in-Ok-new_field.ensures.units, c.loop-k.invariant.units);
      blocks = c.in-Ok-new_field.ensures.blocks ∙ c.loop-k.invariant.blocks;
      nodes = omega (arith, nodes-next 0 c.args.column k, c.in-Ok-new_field.ensures.nodes, c.loop-k.invariant.nodes);
      left = omega (arith, c.in-Ok-new_field.ensures.left, c.loop-k.invariant.left);
    }
