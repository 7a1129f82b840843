use Rattle.std.proofs.Common.{refl}
use Rattle.std.proofs.lemmas.Result.{on_ok_weaker}
use Rattle.data_types.specs.promise.Value.{Null}
use Rattle.col_build.proofs.builder.Builder.add_null.Goals as goal

pub returns-in-Truths-clause-added : goal.returns-in-Truths-clause-added
returns-in-Truths-clause-added c =
    let few = c.requires.holds in
    on_ok_weaker c.put_truth.result (λ adds. adds Null refl refl (few.0, few.1, few.2, few.3, refl)) c.put_truth.ensures.added

pub returns-in_ok-make_offset-in-Between-false-default-clause-added : goal.returns-in_ok-make_offset-in-Between-false-default-clause-added
returns-in_ok-make_offset-in-Between-false-default-clause-added c =
    let few = c.requires.holds in
    let keeps = c.make_offset.ensures.kept in
    on_ok_weaker c.put_between.result
    (λ adds kind values holds. adds Null refl refl (few.0, few.1, keeps few.0 few.1 few.2, few.3, refl) kind values (keeps kind values holds))
    c.put_between.ensures.added
