use Rattle.std.proofs.Common.{◌+◌}
use Rattle.arr_import.proofs.Reading.{own-item}
use Rattle.arr_import.proofs.col.Col.own_item_is.Goals as goal

pub returns : goal.returns
returns c =
    let col = c.args.self.now in
    own-item col.typed.now c.kinds_of_typed.ensures col.array.now (col.start + c.args.i) c.lawful_root.ensures.live c.requires.own col.storage col.storage_ok
