use Rattle.std.proofs.Common.{arith, ap, ◌≡◌, ◌∙◌, w64, to_z, of_z}
use Rattle.std.proofs.lemmas.Int.{ints}
use Rattle.tree_model.specs.promise.TreeParts.{child_at}
use Rattle.raw_array.specs.promise.Members.{ArrayTree, members_of}
use Rattle.dict_stage.proofs.ReplacedChildren.{table-is}
use Rattle.dict_stage.proofs.replaced.replaced.Goals as goal

pub returns-in-Ok-clause-tree : goal.returns-in-Ok-clause-tree
returns-in-Ok-clause-tree c =
    let shown = c.columns_can_be_replaced.ensures.shown c.args.place c.args.chunk c.requires.chunk in
    let rows = to_z w64 (of_z w64 c.length-rows.result) in
    let is : rows ≡ (members_of c.args.chunk).length = omega (arith, ints, c.length-rows.ensures) in
    c.in-Ok.ensures.tree
    ∙ table-is c.args.place c.args.chunk c.args.column rows c.in_ok-columns.columns.items shown.sized is c.in_ok-columns.ensures.columns

pub length-rows-requires : goal.length-rows-requires
length-rows-requires c = (c.columns_can_be_replaced.ensures.shown c.args.place c.args.chunk c.requires.chunk).live

pub replaced_children-requires-clause-shown : goal.replaced_children-requires-clause-shown
replaced_children-requires-clause-shown c = c.columns_can_be_replaced.ensures.shown c.args.place c.args.chunk c.requires.chunk

pub replaced_children-requires-clause-inside : goal.replaced_children-requires-clause-inside
replaced_children-requires-clause-inside c = c.columns_can_be_replaced.ensures.inside c.args.place c.args.chunk c.requires.chunk

pub returns-in-Ok-clause-column : goal.returns-in-Ok-clause-column
returns-in-Ok-clause-column c =
    let shown = c.columns_can_be_replaced.ensures.shown c.args.place c.args.chunk c.requires.chunk in
    let rows = to_z w64 (of_z w64 c.length-rows.result) in
    let is : rows ≡ (members_of c.args.chunk).length = omega (arith, ints, c.length-rows.ensures) in
    ap (λ (t : ArrayTree). child_at t c.args.place) (c.in-Ok.ensures.tree
    ∙ table-is c.args.place c.args.chunk c.args.column rows c.in_ok-columns.columns.items shown.sized is c.in_ok-columns.ensures.columns)
    ∙ c.columns_can_be_replaced.ensures.placed c.args.place c.args.chunk c.args.column c.requires.chunk
