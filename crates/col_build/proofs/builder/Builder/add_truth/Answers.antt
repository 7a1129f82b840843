use Rattle.std.proofs.Common.{refl}
use Rattle.std.proofs.lemmas.Result.{on_ok_weaker}
use Rattle.data_types.specs.promise.Value.{Truth}
use Rattle.col_build.proofs.OneMore.{truths-shape}
use Rattle.col_build.proofs.builder.Builder.add_truth.Goals as goal

pub put_truth-requires-clause-truths : goal.put_truth-requires-clause-truths
put_truth-requires-clause-truths c = truths-shape c.args.self.now c.args.truth c.requires.takes

pub returns-clause-added : goal.returns-clause-added
returns-clause-added c =
    on_ok_weaker c.put_truth.result (λ adds. adds (Truth c.args.truth) refl refl c.requires.takes) c.put_truth.ensures.added
