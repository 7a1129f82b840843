use Rattle.arr_import.specs.Cols.{window_of}
use Rattle.arr_import.specs.Window.{items_of}
use Rattle.dict_stage.proofs.Recoded.{plain-made}
use Rattle.dict_stage.proofs.column.plain_column.Goals as goal

pub returns-in-Ok-clause-made : goal.returns-in-Ok-clause-made
returns-in-Ok-clause-made c =
    let type = c.args.kind.now in
    let vs = items_of (window_of c.args.items.now) in
    let holds = c.in_ok-builder.ensures in
    plain-made type vs _ c.args.pass.now c.built_column.new.pass c.requires.items.is c.requires.items.items
    (c.in-Ok.ensures.tree type vs holds) (c.in-Ok.ensures.units type vs holds) (c.in-Ok.ensures.blocks type vs holds) c.in-Ok.ensures.nodes
