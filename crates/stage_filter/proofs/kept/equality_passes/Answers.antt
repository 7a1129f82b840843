use Rattle.std.proofs.Common.{◌∙◌, sym, ap}
use Rattle.arr_import.specs.Cols.{window_of}
use Rattle.arr_import.specs.Window.{item_at}
use Rattle.data_types.specs.promise.Value.{Value}
use Rattle.stage_model.specs.promise.Stages.{passes}
use Rattle.stage_model.specs.declared.stage.Const.TheVariants as consts
use Rattle.stage_filter.specs.Kept.{equality}
use Rattle.stage_filter.proofs.Tests.{no-bytes-pass}
use Rattle.stage_filter.proofs.kept.equality_passes.Goals as goal

pub returns-in-Some : goal.returns-in-Some
returns-in-Some c =
    c.are_asked.ensures
    ∙ ap (λ (v : Value). passes (equality c.args.equal) (consts.Bytes c.args.constant.now) v) (sym c.in-Some.ensures.some)

pub returns-in-None : goal.returns-in-None
returns-in-None c = no-bytes-pass c.args.equal c.args.constant.now (item_at (window_of c.args.items.now) c.args.i) c.in-None.ensures.none
