use Rattle.std.proofs.Common.{arith}
use Rattle.list_cols.proofs.NestedKids.{are-firsts, are-groups, kid-form, kid-here, kid-reach, kid-typed}
use Rattle.list_cols.proofs.nest_table.chunk_groups.Goals as goal

pub grouped-requires : goal.grouped-requires
grouped-requires c =
    let laws = c.lawful_trees.ensures in
    let t = c.args.typed.now in
    let own = c.index-kid.result.now in
    let array = c.args.array.now in
    let child = c.child-items.result.now in
    let k = c.args.column in
    let kid = kid-here t own array child k k c.kinds_of_typed.ensures c.kinds_of_typed-2.ensures c.requires.types c.requires.inside
    c.index-kid.ensures c.child-items.ensures laws.root laws.parts laws.items c.chunks_are_tables.ensures.chunk c.flat_types_have_no_children.ensures
    c.requires.chunk in
    let start = c.first_row-start.result in
    let place = c.first_row-start.ensures in
    let count = c.few_rows-count.result in
    let many = c.few_rows-count.ensures in
    record {
      types = kid.ok;
      typed = kid-typed t own array child k kid;
      flat = kid-form t own array child k kid;
      lawful = kid.lawful;
      inside = kid-reach t own array child k kid start count place many;
      few = omega (arith, many, c.requires.few);
    }

pub returns-in-Ok : goal.returns-in-Ok
returns-in-Ok c =
    let laws = c.lawful_trees.ensures in
    let t = c.args.typed.now in
    let own = c.index-kid.result.now in
    let array = c.args.array.now in
    let child = c.child-items.result.now in
    let k = c.args.column in
    let kid = kid-here t own array child k k c.kinds_of_typed.ensures c.kinds_of_typed-2.ensures c.requires.types c.requires.inside
    c.index-kid.ensures c.child-items.ensures laws.root laws.parts laws.items c.chunks_are_tables.ensures.chunk c.flat_types_have_no_children.ensures
    c.requires.chunk in
    let start = c.first_row-start.result in
    let place = c.first_row-start.ensures in
    let count = c.few_rows-count.result in
    let many = c.few_rows-count.ensures in
    let e = c.in-Ok.ensures in
    let groups = c.in-Ok.groups in
    record {
      are = are-groups t own array child k kid start count groups place many e.firsts e.order e.offsets e.inside e.apart e.all;
      firsts = are-firsts t own array child k kid start count groups.firsts.items place many e.values e.firsts_inside e.firsts_apart;
      few = c.requires.few;
    }
