use Rattle.std.proofs.Common.{◌≡◌, ◌∙◌, ◌+◌, ◌-◌, ◌++◌, [], ◌∷◌, length, map, ap, sym, arith}
use Rattle.std.proofs.lemmas.List.{length-map}
use Rattle.tree_model.specs.promise.TreeParts.{children_of}
use Rattle.tree_model.specs.promise.TreeData.{trees}
use Rattle.raw_array.specs.Members.{cost_of_all}
use Rattle.data_types.specs.promise.KindTrees.{kind_in}
use Rattle.data_types.specs.promise.TypedView.{typed_of}
use Rattle.data_types.specs.TypedView.{kids_of}
use Rattle.data_types.specs.declared.typed.Typed.{out-Typed}
use Rattle.layout_rules.specs.promise.Values.{each, rows_of}
use Rattle.arr_move.proofs.MovedChildren.{cost-push}
use Rattle.unit_pass.specs.promise.Tally.{risen}
use Rattle.list_cols.specs.promise.NestedTables.{nested_column}
use Rattle.list_cols.specs.NestedTables.{FitColumn, nodes_to}
use Rattle.list_cols.proofs.ListItems.{each-next}
use Rattle.list_cols.proofs.NestedKids.{fits-next}
use Rattle.list_cols.proofs.NestedNodes.{nodes-next}
use Rattle.list_cols.proofs.nest_columns.nested_columns.Goals as goal

pub loop-k-preserved : goal.loop-k-preserved
loop-k-preserved c =
    let types = map kind_in (children_of (typed_of c.args.typed.now)) in
    let rows = rows_of (typed_of c.args.typed.now) c.args.array.now in
    let f = nested_column c.args.column types rows in
    let k = c.loop-k.k in
    let start : k ≡ 0 + k = omega arith in
    let before = each f 0 k in
    let cost = ap (λ fs. cost_of_all (trees fs)) c.push_reserved.ensures.items in
    let next = nodes-next 1 c.args.column k in
    let more = cost-push c.loop-k.columns.items c.in-Ok-nested_column.made in
    record {
      columns = c.push_reserved.ensures.items
          ∙ (λ t. c.loop-k.invariant.columns t ++ c.in-Ok-nested_column.ensures.made t ∷ [])
          ∙ ap (λ n. before ++ f n ∷ []) start ∙ sym (each-next f 0 k);
      fits = fits-next (FitColumn c.args.column types rows) k c.loop-k.invariant.fits c.in-Ok-nested_column.ensures.fits;
      count = omega (arith, c.push_reserved.ensures.len, c.loop-k.invariant.count);
      room = omega (arith, c.push_reserved.ensures.capacity, c.loop-k.invariant.room);
      units = omega (arith, cost, more, c.in-Ok-nested_column.ensures.units, c.loop-k.invariant.units);
      left = omega (arith, c.in-Ok-nested_column.ensures.left, c.loop-k.invariant.left);
      least = omega (arith, next, c.in-Ok-nested_column.ensures.least, c.loop-k.invariant.least);
      blocks = omega (
        arith,
        next,
        c.in-Ok-nested_column.ensures.least,
        c.loop-k.invariant.least,
        c.in-Ok-nested_column.ensures.blocks,
        c.loop-k.invariant.blocks,
      );
      nodes = omega (arith, next, c.in-Ok-nested_column.ensures.nodes, c.loop-k.invariant.nodes);
    }

pub returns-clause-blocks : goal.returns-clause-blocks
returns-clause-blocks c =
    let kids = length-map (out-Typed c.args.typed.now).kids.items typed_of in
    let all : c.loop-k.k ≡ length (kids_of c.args.typed.now) =
    omega (arith, kids, c.loop-k-test.false, c.loop-k.auto.k-end, c.len-count.ensures, (out-Typed c.args.typed.now).kids.ok) in
    let units = c.args.pass.now.units - c.loop-k.pass.units in
    c.loop-k.invariant.blocks ∙ ap (λ n. risen c.args.pass.now.blocks (units - nodes_to 1 c.args.column n)) all

pub returns-clause-nodes : goal.returns-clause-nodes
returns-clause-nodes c =
    let kids = length-map (out-Typed c.args.typed.now).kids.items typed_of in
    let all : c.loop-k.k ≡ length (kids_of c.args.typed.now) =
    omega (arith, kids, c.loop-k-test.false, c.loop-k.auto.k-end, c.len-count.ensures, (out-Typed c.args.typed.now).kids.ok) in
    c.loop-k.invariant.nodes ∙ ap (λ n. risen c.args.pass.now.nodes (nodes_to 1 c.args.column n)) all
