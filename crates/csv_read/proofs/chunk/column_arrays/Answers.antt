use Rattle.std.proofs.Common.{rules, ◌≡◌, ◌<◌, ◌∙◌, ◌+◌, ◌++◌, List, ◌∷◌, [], ap, arith, length, subst, sym, take}
use Rattle.std.proofs.lemmas.List.{take_all, take_more}
use Rattle.tree_model.specs.promise.TreeData.{trees}
use Rattle.raw_array.specs.Members.{cost_of_all}
use Rattle.col_build.specs.Holding.{HoldsSome}
use Rattle.col_build.specs.declared.builder.Builder.{Builder}
use Rattle.csv_read.specs.Chunks.{AreColumnsOf, IsColumnOf, all_blocks}
use Rattle.csv_read.proofs.ChunkCosts.{blocks-push, columns-push, cost-push}
use Rattle.csv_read.proofs.EmptiedBuilders.{all-emptied, none-emptied, none-spent, one-emptied, one-spent}
use Rattle.csv_read.proofs.chunk.column_arrays.Goals as goal

pub loop-j-init : goal.loop-j-init
loop-j-init c =
    let items = c.in-Ok.ensures.items in
    record {
      emptied = none-emptied c.args.builders.now;
      arrays = rw items tt;
      count = search rules;
      room = search rules;
      units = rw items (omega arith);
      small = rw items (omega arith);
      blocks = rw items (omega (arith, c.args.pass.now.most_blocks));
      nodes = omega (arith, c.args.pass.now.most_nodes);
    }

pub column_array-requires-clause-holds : goal.column_array-requires-clause-holds
column_array-requires-clause-holds c =
    let before = c.loop-j.invariant.emptied in
    subst HoldsSome (sym (before.others c.loop-j.j c.index-builders-j.result (omega arith)))
    (c.requires.holds c.loop-j.j c.index-builders-j.result (omega (arith, before.count, c.loop-j-test.true)))

pub loop-j-preserved : goal.loop-j-preserved
loop-j-preserved c =
    let before = c.loop-j.invariant in
    let old = c.args.builders.now in
    let b = c.index-builders-j.result in
    let one = c.in-Ok-column_array.ensures in
    let items = c.push_reserved.ensures.items in
    let within : c.loop-j.j < length old = omega (arith, before.emptied.count, c.loop-j-test.true) in
    let column = subst (λ x. IsColumnOf x c.in-Ok-column_array.array) (before.emptied.others c.loop-j.j b (omega arith)) one.column in
    let cost = ap (λ arrays. cost_of_all (trees arrays)) items ∙ cost-push c.loop-j.arrays.items c.in-Ok-column_array.array in
    let blocks = ap all_blocks items ∙ blocks-push c.loop-j.arrays.items c.in-Ok-column_array.array in
    record {
      emptied = one-emptied c.loop-j.j old c.loop-j.builders b c.column_array.new.builder before.emptied within one.emptied;
      arrays = rw (take_more old c.loop-j.j b within) (subst (AreColumnsOf (take c.loop-j.j old ++ _ ∷ [])) (sym items)
          (columns-push (take c.loop-j.j old) c.loop-j.arrays.items _ c.in-Ok-column_array.array before.arrays column));
      count = omega (arith, c.push_reserved.ensures.len, before.count);
      room = omega (arith, before.room, c.push_reserved.ensures.capacity);
      units = omega (arith, cost, before.units, one.units);
      small = omega (arith, cost, before.small, one.small);
      blocks = omega (arith, one.blocks, before.blocks, blocks);
      nodes = omega (arith, one.nodes, before.nodes);
    }

pub returns-clause-columns : goal.returns-clause-columns
returns-clause-columns c =
    let all : take c.loop-j.j c.args.builders.now ≡ c.args.builders.now = take_all c.loop-j.j c.args.builders.now (omega arith) in
    subst (λ (bs : List Builder). AreColumnsOf bs c.loop-j.arrays.items) all c.loop-j.invariant.arrays

pub returns-clause-emptied : goal.returns-clause-emptied
returns-clause-emptied c = all-emptied c.loop-j.j c.args.builders.now c.loop-j.builders c.loop-j.invariant.emptied (omega arith)

pub returns-in-Err-clause-spent : goal.returns-in-Err-clause-spent
returns-in-Err-clause-spent c =
    let before = c.loop-j.invariant.emptied in
    let within : c.loop-j.j < length c.args.builders.now = omega (arith, before.count, c.loop-j-test.true) in
    one-spent c.loop-j.j c.args.builders.now c.loop-j.builders c.index-builders-j.result c.column_array.new.builder before within c.in-Err.ensures.spent
