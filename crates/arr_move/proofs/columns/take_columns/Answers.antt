use Rattle.std.proofs.Common.{◌≡◌, map, ap, ◌∙◌, arith, w64, to_z, of_z}
use Rattle.std.proofs.lemmas.Int.{ints}
use Rattle.raw_array.specs.promise.Members.{Cost, members_of}
use Rattle.tree_model.specs.promise.TreeData.{Live, trees, absent}
use Rattle.arr_move.specs.TreeActs.{Columns, cut, struct_members, with_children}
use Rattle.arr_move.proofs.Fewer.{picks_le-children}
use Rattle.arr_move.proofs.columns.take_columns.Goals as goal

pub returns-in-Ok-clause-units : goal.returns-in-Ok-clause-units
returns-in-Ok-clause-units c =
    let off : to_z w64 (of_z w64 c.offset-off.result) ≡ (members_of c.args.array).offset = omega (arith, ints, c.offset-off.ensures) in
    let len : to_z w64 (of_z w64 c.length-len.result) ≡ (members_of c.args.array).length = omega (arith, ints, c.length-len.ensures) in
    let is : c.fill_struct.result ≡ Columns c.args.array c.args.picks.now =
    c.fill_struct.ensures.top
    ∙ ap (λ top. with_children top
    (map (cut c.args.array (to_z w64 (of_z w64 c.offset-off.result)) (to_z w64 (of_z w64 c.length-len.result))) c.args.picks.now)) c.in-Ok.ensures.top
    ∙ (λ j. Live (struct_members (len j)) (trees (map (cut c.args.array (off j) (len j)) c.args.picks.now)) absent) in
    omega (arith, ap Cost is, c.fill_struct.ensures.units, c.in-Ok.ensures.units, c.in-Ok.ensures.cost)

pub vacant_struct-requires-clause-few : goal.vacant_struct-requires-clause-few
vacant_struct-requires-clause-few c =
    omega (arith, picks_le-children c.args.array c.args.picks.now c.requires.distinct c.requires.in_range, c.n_children-children.ensures.few)
