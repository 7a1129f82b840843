use Rattle.std.proofs.Common.{◌+◌, ◌<◌, arith}
use Rattle.raw_array.specs.promise.Members.{members_of}
use Rattle.data_types.specs.TypedView.{kind_of}
use Rattle.layout_rules.specs.promise.Layout.{first}
use Rattle.layout_rules.specs.promise.Values.{tree_items}
use Rattle.arr_import.proofs.Reading.{item-there, kind-ok}
use Rattle.arr_import.proofs.col.Col.item_is_there.Goals as goal

pub returns : goal.returns
returns c =
    let col = c.args.self.now in
    let own = members_of col.array.now in
    let inside : col.start + c.args.i < tree_items col.array.now = omega (arith, col.within, c.requires) in
    item-there (kind_of col.typed.now) col.storage own col.stored.now col.text.now (first own + (col.start + c.args.i)) col.storage_ok col.stored_is col.text_is
    (kind-ok col.typed.now c.kinds_of_typed.ensures col.valid)
    (c.lawful_items_lie_within.ensures.stored (col.start + c.args.i) inside)
