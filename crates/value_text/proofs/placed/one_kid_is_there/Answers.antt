use Rattle.std.proofs.Common.{refl}
use Rattle.std.proofs.lemmas.Grind.{merely}
use Rattle.data_types.specs.promise.Storage.{storage_of}
use Rattle.data_types.specs.TypedView.{kind_of}
use Rattle.arr_import.proofs.Reading.{one-child}
use Rattle.value_text.proofs.placed.one_kid_is_there.Goals as goal

pub returns : goal.returns
returns c =
    one-child c.args.typed.now c.kinds_of_typed.ensures (storage_of (kind_of c.args.typed.now)) refl c.requires.list (merely c.requires.types)
