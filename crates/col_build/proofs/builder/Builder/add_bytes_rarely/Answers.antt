use Rattle.std.proofs.Common.{refl}
use Rattle.std.proofs.lemmas.Result.{on_ok_weaker}
use Rattle.data_types.specs.promise.Value.{Bytes}
use Rattle.col_build.proofs.builder.Builder.add_bytes_rarely.Goals as goal

pub returns-in_ok-make_offset-in-Between-false-default-clause-added : goal.returns-in_ok-make_offset-in-Between-false-default-clause-added
returns-in_ok-make_offset-in-Between-false-default-clause-added c =
    let text = c.args.bytes.now in
    let takes = c.requires.takes in
    let keeps = c.make_offset.ensures.kept in
    on_ok_weaker c.put_between.result
    (λ adds kind values holds.
    adds (Bytes text) refl refl (takes.0, takes.1, keeps takes.0 takes.1 takes.2, takes.3, takes.4) kind values (keeps kind values holds))
    c.put_between.ensures.added
