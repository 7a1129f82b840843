use Rattle.std.proofs.Common.{◌∙◌, ap, sym, option_map, Some}
use Rattle.stage_model.specs.StageGrammar.{cut_behind}
use Rattle.stage_plan.proofs.StageCuts.{cut-parts}
use Rattle.stage_plan.proofs.cut.cut.Goals as goal

pub returns-clause-found : goal.returns-clause-found
returns-clause-found c =
    ap (option_map (cut_behind c.args.text.now)) (sym c.place_of.ensures ∙ c.in_ok-place.was)
    ∙ ap Some (cut-parts c.args.text.now c.in_ok-place.place _ _ c.split_at.ensures.front c.split_at.ensures.back)
