use Rattle.std.proofs.Common.{length, ap, ◌∙◌}
use Rattle.tree_model.specs.promise.TreeParts.{children_of}
use Rattle.arr_move.specs.TreeActs.{with_children}
use Rattle.arr_move.specs.Fields.{fields_over}
use Rattle.arr_move.proofs.Over.{top-fields, top-schema}
use Rattle.arr_move.proofs.replaced.with_fields.Goals as goal

pub filled-requires-clause-places : goal.filled-requires-clause-places
filled-requires-clause-places c = ap length (top-fields c.in-Ok.top c.args.schema c.args.fields.items c.in-Ok.ensures.top) ∙ c.requires.places

pub returns-in-Ok-clause-made : goal.returns-in-Ok-clause-made
returns-in-Ok-clause-made c =
    let schema = c.args.schema in
    let olds = children_of schema in
    c.filled.ensures.top
    ∙ ap (λ fs. with_children c.in-Ok.top (fields_over fs olds)) (top-fields c.in-Ok.top schema c.args.fields.items c.in-Ok.ensures.top)
    ∙ top-schema c.in-Ok.top schema c.args.fields.items (fields_over c.args.fields.items olds) c.requires.live c.requires.no_dictionary c.in-Ok.ensures.top
