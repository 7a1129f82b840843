use Rattle.std.proofs.Common.{refl, sym, arith}
use Rattle.std.proofs.lemmas.Grind.{merely}
use Rattle.data_types.specs.promise.Storage.{storage_of}
use Rattle.raw_array.specs.promise.Members.{members_of}
use Rattle.data_types.specs.promise.TypedView.{typed_of}
use Rattle.data_types.specs.TypedView.{kind_of}
use Rattle.arr_import.proofs.Reading.{index-int, index-there, value-entry}
use Rattle.value_text.proofs.placed.index_is_there.Goals as goal

pub returns : goal.returns
returns c =
    let t = c.args.typed.now in
    let array = c.args.array.now in
    let i = c.args.i in
    let kinds = typed_of c.args.dict.now in
    let dictionary = c.args.dictionary.now in
    let e = c.kinds_of_typed.ensures in
    let live = c.lawful_root.ensures.live in
    let int = index-int t e kinds c.requires.kinds (merely c.requires.types) in
    record {
      there =
          index-there (kind_of t) (storage_of (kind_of t)) (members_of array) i dictionary refl int c.requires.valid
          (c.lawful_items_lie_within.ensures.index i kinds dictionary c.requires.inside c.requires.kinds c.requires.behind);
      value = sym (value-entry t e array i live c.requires.valid kinds dictionary c.requires.kinds c.requires.behind int);
      few = omega (arith, c.lawful_root-2.ensures.end, c.lawful_root-2.ensures.items);
    }
