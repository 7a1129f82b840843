use Rattle.std.proofs.Common.{◌∙◌, ap, sym}
use Rattle.stage_model.specs.promise.StageGrammar.{read_filter}
use Rattle.stage_plan.proofs.stages.read_filter.Goals as goal

pub returns-in_default-read_test : goal.returns-in_default-read_test
returns-in_default-read_test c = c.in_default-read_test.ensures c.in-Some.name.now ∙ ap read_filter (sym c.in-Some.ensures.found)

pub returns : goal.returns
returns c =
    rw (c.in_ok-name.ensures, c.in_ok-constant.ensures)
    (c.in-Some-read_test.ensures c.in-Some.name.now ∙ ap read_filter (sym c.in-Some.ensures.found))
