use Rattle.std.proofs.Common.{◌+◌, ◌<◌, arith}
use Rattle.raw_array.specs.promise.Members.{members_of}
use Rattle.data_types.specs.TypedView.{kind_of}
use Rattle.layout_rules.specs.promise.Values.{tree_items}
use Rattle.arr_import.proofs.Reading.{view-there}
use Rattle.arr_import.proofs.col.Col.view_is_there.Goals as goal

pub returns-clause-within : goal.returns-clause-within
returns-clause-within c =
    let col = c.args.self.now in
    let j = col.start + c.args.i in
    let inside : j < tree_items col.array.now = omega (arith, col.within, c.requires.inside) in
    view-there (kind_of col.typed.now) col.storage (members_of col.array.now) j col.storage_ok c.requires.view c.requires.valid
    (c.lawful_items_lie_within.ensures.views j inside)
