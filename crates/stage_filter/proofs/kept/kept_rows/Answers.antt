use Rattle.std.proofs.Common.{rules, ◌≡◌, ◌∙◌, ◌-◌, true, ap, sym}
use Rattle.arr_import.specs.Cols.{window_of}
use Rattle.stage_model.specs.promise.Typing.{compares}
use Rattle.stage_model.specs.declared.stage.Const.{Const}
use Rattle.stage_filter.specs.Kept.{kept_numbers}
use Rattle.stage_filter.proofs.Tests.{no-constant}
use Rattle.stage_filter.proofs.kept.kept_rows.Goals as goal

pub returns-in-None : goal.returns-in-None
returns-in-None c =
    let w = window_of c.args.items.now in
    let compared : compares c.args.test ≡ true = search rules in
    c.new.ensures.items ∙ no-constant c.args.test w c.args.from (c.args.to - c.args.from) compared
    ∙ ap (λ (constant : Const). kept_numbers c.args.test constant w c.args.from (c.args.to - c.args.from)) (sym c.in-None.is)
