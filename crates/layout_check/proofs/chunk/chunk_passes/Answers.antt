use Rattle.std.proofs.Common.{rules, [], sym, ap, ◌∙◌}
use Rattle.std.proofs.lemmas.Bool.{both_ways}
use Rattle.std.specs.Prelude.{is_none}
use Rattle.data_types.specs.promise.TypedView.{typed_of}
use Rattle.layout_rules.specs.promise.Walk.{top_fault}
use Rattle.layout_rules.proofs.ReadWithin.{lawful-no_fault, no_fault-lawful, is_none-none}
use Rattle.layout_check.proofs.chunk.chunk_passes.Goals as goal

pub top_passes-requires : goal.top_passes-requires
top_passes-requires c =
    let all = c.passes.ensures [] in
    lawful-no_fault (typed_of c.args.typed.now) c.args.array.now (search rules)

pub returns-then-passes : goal.returns-then-passes
returns-then-passes c =
    let typed = typed_of c.args.typed.now in
    let array = c.args.array.now in (
      λ h. (lawful-no_fault typed array (sym (c.passes.ensures []) ∙ c.if-passes.true), is_none-none (top_fault typed array) (sym c.top_passes.ensures ∙ h)),
      λ ok. c.top_passes.ensures ∙ ap is_none ok.1,
    )

pub returns-else-passes : goal.returns-else-passes
returns-else-passes c =
    let typed = typed_of c.args.typed.now in
    let array = c.args.array.now in
    (λ h. absurd (both_ways c.passes.result c.if-passes.false h), λ ok. c.passes.ensures [] ∙ no_fault-lawful typed array ok.0)
