use Rattle.std.proofs.Common.{◌∙◌, subst, sym}
use Rattle.data_types.specs.promise.TypedView.{typed_of}
use Rattle.tree_top.specs.NewLengths.{IsLong}
use Rattle.tree_top.specs.AnswerParts.{tags_unless}
use Rattle.tree_top.proofs.tags.is_tagged_too_long.Goals as goal

pub returns-in-None-clause-long : goal.returns-in-None-clause-long
returns-in-None-clause-long c = λ long.
    subst (λ fault. IsLong (tags_unless (typed_of c.args.typed.now) c.args.array.now fault)) (sym c.in-None.is ∙ c.columns_fault.ensures)
    (c.has_long_lines.ensures.long long)
