use Rattle.arr_import.proofs.Reading.{no-dictionary}
use Rattle.arr_import.proofs.col.Col.has_no_dictionary.Goals as goal

pub returns : goal.returns
returns c =
    let col = c.args.self.now in
    no-dictionary col.typed.now c.kinds_of_typed.ensures col.storage col.storage_ok c.requires col.valid
