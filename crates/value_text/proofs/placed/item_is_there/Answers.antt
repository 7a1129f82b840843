use Rattle.std.proofs.Common.{◌+◌, refl}
use Rattle.std.proofs.lemmas.Grind.{merely}
use Rattle.data_types.specs.promise.Storage.{storage_of}
use Rattle.raw_array.specs.promise.Members.{members_of}
use Rattle.data_types.specs.TypedView.{kind_of}
use Rattle.layout_rules.specs.promise.Layout.{bytes, first}
use Rattle.arr_import.proofs.Reading.{item-there, kind-ok}
use Rattle.value_text.proofs.placed.item_is_there.Goals as goal

pub returns : goal.returns
returns c =
    let t = c.args.typed.now in
    let own = members_of c.args.array.now in
    item-there (kind_of t) (storage_of (kind_of t)) own (bytes own 1) (bytes own 2) (first own + c.args.i) refl refl refl
    (kind-ok t c.kinds_of_typed.ensures (merely c.requires.types))
    (c.lawful_items_lie_within.ensures.stored c.args.i c.requires.inside)
