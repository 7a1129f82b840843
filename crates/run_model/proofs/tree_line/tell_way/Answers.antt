use Rattle.std.proofs.Common.{ap, codes, refl, ◌++◌}
use Rattle.data_types.specs.promise.WayTexts.{way_text}
use Rattle.run_model.proofs.Pieces.{says-both, says-in-part}
use Rattle.run_model.proofs.tree_line.tell_way.Goals as goal

pub returns-in_err-say : goal.returns-in_err-say
returns-in_err-say g c = says-in-part _ _ _ _ _ _ _ _ c.from_residual.ensures.0 refl c.in_err-say.ensures

pub returns : goal.returns
returns g c =
    says-both _ _ _ _ _ _ _ _ _ _ (ap (λ w. codes "arrowpipe: tree " ++ way_text w) c.way.ensures) c.in_ok-say.ensures c.tell_steps_if.ensures
