use Rattle.std.proofs.Common.{◌≤◌, List, length, subst}
use Rattle.data_types.specs.promise.Value.{Value}
use Rattle.data_types.specs.promise.Groups.{distinct}
use Rattle.row_groups.specs.Items.{IsRefusedFor, most_groups}
use Rattle.list_cols.proofs.NestedKids.{are-firsts, keys-are, kid-form, kid-here, kid-reach, kid-typed}
use Rattle.list_cols.proofs.nest_alone.only_firsts.Goals as goal

pub first_items-requires : goal.first_items-requires
first_items-requires c =
    let laws = c.lawful_trees.ensures in
    let t = c.args.typed.now in
    let own = c.index-kid.result.now in
    let array = c.args.array.now in
    let child = c.child-items.result.now in
    let k = c.args.column in
    let kid = kid-here t own array child k k c.kinds_of_typed.ensures c.kinds_of_typed-2.ensures c.requires.types c.requires.inside
    c.index-kid.ensures c.child-items.ensures laws.root laws.parts laws.items c.chunks_are_tables.ensures.chunk c.flat_types_have_no_children.ensures
    c.requires.chunk in
    let start = c.first_row-start.result in
    let place = c.first_row-start.ensures in
    let count = c.row_count-count.result in
    let many = c.row_count-count.ensures in
    record {
      types = kid.ok;
      typed = kid-typed t own array child k kid;
      flat = kid-form t own array child k kid;
      lawful = kid.lawful;
      inside = kid-reach t own array child k kid start count place many;
    }

pub returns-in-Ok : goal.returns-in-Ok
returns-in-Ok c =
    let laws = c.lawful_trees.ensures in
    let t = c.args.typed.now in
    let own = c.index-kid.result.now in
    let array = c.args.array.now in
    let child = c.child-items.result.now in
    let k = c.args.column in
    let kid = kid-here t own array child k k c.kinds_of_typed.ensures c.kinds_of_typed-2.ensures c.requires.types c.requires.inside
    c.index-kid.ensures c.child-items.ensures laws.root laws.parts laws.items c.chunks_are_tables.ensures.chunk c.flat_types_have_no_children.ensures
    c.requires.chunk in
    let start = c.first_row-start.result in
    let place = c.first_row-start.ensures in
    let count = c.row_count-count.result in
    let many = c.row_count-count.ensures in
    let e = c.in-Ok.ensures in
    record {
      firsts = are-firsts t own array child k kid start count c.in-Ok.firsts.items place many e.values e.firsts_inside e.firsts_apart;
      few = subst (λ (vs : List Value). length (distinct vs) ≤ most_groups) (keys-are t own array child k kid start count place many) e.few;
      fault = tt;
    }

pub returns-in-Err : goal.returns-in-Err
returns-in-Err c =
    let laws = c.lawful_trees.ensures in
    let t = c.args.typed.now in
    let own = c.index-kid.result.now in
    let array = c.args.array.now in
    let child = c.child-items.result.now in
    let k = c.args.column in
    let kid = kid-here t own array child k k c.kinds_of_typed.ensures c.kinds_of_typed-2.ensures c.requires.types c.requires.inside
    c.index-kid.ensures c.child-items.ensures laws.root laws.parts laws.items c.chunks_are_tables.ensures.chunk c.flat_types_have_no_children.ensures
    c.requires.chunk in
    let start = c.first_row-start.result in
    let place = c.first_row-start.ensures in
    let count = c.row_count-count.result in
    let many = c.row_count-count.ensures in
    record {
      firsts = tt;
      few = tt;
      fault = subst (λ (vs : List Value). IsRefusedFor (length (distinct vs)) c.in-Err.fault) (keys-are t own array child k kid start count place many)
          c.in-Err.ensures.fault;
    }
