use Rattle.std.proofs.Common.{◌≡◌, ◌∙◌, sym, ap}
use Rattle.layout_rules.specs.promise.Layout.{is_valid}
use Rattle.data_types.specs.promise.Storage.{storage_of}
use Rattle.data_types.specs.promise.KindTrees.{kind_in}
use Rattle.tree_model.specs.promise.TreeParts.{children_of}
use Rattle.raw_array.specs.promise.Members.{members_of}
use Rattle.row_groups.specs.ItemKeys.{array_of, item_of, stored_as, type_of}
use Rattle.row_groups.proofs.StoredKeys.{item-plain, float-key}
use Rattle.row_groups.proofs.column.Column.float_key.Goals as goal

pub returns : goal.returns
returns c =
    let column = c.args.self.now in
    let i = c.args.i in
    let a = array_of column in
    let is = item-plain (type_of column) a c.requires.column.typed c.lawful_root.ensures.live i in
    let here : stored_as column ≡ c.storage_of.result = ap storage_of (ap kind_in c.kinds_of_typed.ensures) ∙ sym c.storage_of.ensures in
    let stored = here ∙ c.in-Floats.is in
    float-key (stored_as column) (is_valid (members_of a) i) (members_of a) (children_of a) i (item_of column i) c.in-Floats.bits c.stored_key.result.now is
    c.requires.float stored c.stored_key.ensures.bytes c.stored_key.ensures.number
