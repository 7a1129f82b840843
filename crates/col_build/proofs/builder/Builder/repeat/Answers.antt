use Rattle.std.proofs.lemmas.Result.{on_ok_weaker}
use Rattle.col_build.proofs.builder.Builder.repeat.Goals as goal

pub returns-in_default : goal.returns-in_default
returns-in_default c = record {
  added = on_ok_weaker c.repeat_nothing.result (λ adds value null set takes. adds value null takes) c.repeat_nothing.ensures.added;
  kept = c.repeat_nothing.ensures.kept;
}
