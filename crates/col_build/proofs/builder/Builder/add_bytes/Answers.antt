use Rattle.std.proofs.Common.{refl}
use Rattle.std.proofs.lemmas.Result.{on_ok_weaker}
use Rattle.data_types.specs.promise.Value.{Bytes}
use Rattle.col_build.proofs.builder.Builder.add_bytes.Goals as goal

pub returns-in-Between-false-default-clause-added : goal.returns-in-Between-false-default-clause-added
returns-in-Between-false-default-clause-added c =
    on_ok_weaker c.put_between.result (λ adds. adds (Bytes c.args.bytes.now) refl refl c.requires.takes) c.put_between.ensures.added
