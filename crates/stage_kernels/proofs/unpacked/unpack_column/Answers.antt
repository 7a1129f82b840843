use Rattle.std.proofs.Common.{arith, ◌≡◌, ◌∙◌, ap, w64, to_z, of_z}
use Rattle.std.proofs.lemmas.Int.{ints}
use Rattle.raw_array.specs.promise.Members.{Cost, members_of}
use Rattle.stage_kernels.proofs.UnpackedChildren.{table-is}
use Rattle.stage_kernels.proofs.unpacked.unpack_column.Goals as goal

pub unpacked_children-requires-clause-shown : goal.unpacked_children-requires-clause-shown
unpacked_children-requires-clause-shown c = c.structs_can_be_unpacked.ensures.shown c.args.place c.args.chunk c.requires.chunk

pub returns-in-Ok-clause-tree : goal.returns-in-Ok-clause-tree
returns-in-Ok-clause-tree c =
    let shown = c.structs_can_be_unpacked.ensures.shown c.args.place c.args.chunk c.requires.chunk in
    let rows = to_z w64 (of_z w64 c.length-rows.result) in
    let is : rows ≡ (members_of c.args.chunk).length = omega (arith, ints, c.length-rows.ensures) in
    c.in-Ok.ensures.tree ∙ table-is c.args.place c.args.chunk rows c.in_ok-columns.columns.items shown.outer.sized is c.in_ok-columns.ensures.columns

pub returns-in-Ok-clause-cost : goal.returns-in-Ok-clause-cost
returns-in-Ok-clause-cost c =
    let shown = c.structs_can_be_unpacked.ensures.shown c.args.place c.args.chunk c.requires.chunk in
    let rows = to_z w64 (of_z w64 c.length-rows.result) in
    let is : rows ≡ (members_of c.args.chunk).length = omega (arith, ints, c.length-rows.ensures) in
    let so = c.in_ok-columns.ensures.columns in
    let tree = c.in-Ok.ensures.tree ∙ table-is c.args.place c.args.chunk rows c.in_ok-columns.columns.items shown.outer.sized is so in
    let same = ap Cost tree in
    let less = c.taken_columns_cost_no_more.ensures.unpacked c.args.chunk c.args.place shown.outer.live in
    omega (arith, same, less)
