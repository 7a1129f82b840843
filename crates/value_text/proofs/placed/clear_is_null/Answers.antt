use Rattle.arr_import.proofs.Reading.{value-null}
use Rattle.value_text.proofs.placed.clear_is_null.Goals as goal

pub returns : goal.returns
returns c = value-null c.args.typed.now c.kinds_of_typed.ensures c.args.array.now c.args.i c.lawful_root.ensures.live c.requires.clear
