use Rattle.std.proofs.Common.{◌+◌, ◌<◌, arith}
use Rattle.raw_array.specs.promise.Members.{members_of}
use Rattle.data_types.specs.TypedView.{kind_of}
use Rattle.layout_rules.specs.promise.Layout.{buffer, end, first}
use Rattle.layout_rules.specs.promise.Values.{tree_items}
use Rattle.arr_import.proofs.Reading.{item-there, kind-ok, own-item}
use Rattle.arr_import.proofs.PlainColumns.{bit-there}
use Rattle.arr_import.proofs.col.Col.items_are_stored.Goals as goal

pub returns-clause-there : goal.returns-clause-there
returns-clause-there c i h =
    let col = c.args.self.now in
    let own = members_of col.array.now in
    let inside : col.start + i < tree_items col.array.now = omega (arith, col.within, h) in
    item-there (kind_of col.typed.now) col.storage own col.stored.now col.text.now (first own + (col.start + i)) col.storage_ok col.stored_is col.text_is
    (kind-ok col.typed.now c.kinds_of_typed.ensures col.valid)
    (c.lawful_items_lie_within.ensures.stored (col.start + i) inside)

pub returns-clause-validity : goal.returns-clause-validity
returns-clause-validity c i h =
    let col = c.args.self.now in
    let own = members_of col.array.now in
    let many = c.lawful_root.ensures.items in
    let inside : first own + (col.start + i) < end own = omega (arith, col.within, h, many) in
    bit-there (buffer own 0) (end own) (first own + (col.start + i)) inside c.lawful_root.ensures.long

pub returns-clause-items : goal.returns-clause-items
returns-clause-items c i h =
    let col = c.args.self.now in
    own-item col.typed.now c.kinds_of_typed.ensures col.array.now (col.start + i) c.lawful_root.ensures.live (λ valid. c.requires.own) col.storage col.storage_ok
