use Rattle.std.proofs.Common.{◌≡◌, ◌∙◌, None, length, ap, sym, subst, rules}
use Rattle.tree_model.specs.promise.TreeParts.{children_of}
use Rattle.data_types.specs.promise.TypedView.{typed_of}
use Rattle.arr_move.specs.TreeActs.{with_children}
use Rattle.layout_rules.specs.promise.Values.{tree_items}
use Rattle.union_cols.specs.TagAnswers.{ChecksAsUnion}
use Rattle.union_cols.specs.promise.Tags.{tag_fault}
use Rattle.union_cols.specs.Tags.{cut_columns, tagged_array, tagged_kinds, tagged_schema}
use Rattle.union_cols.proofs.TagLaw.{tagged}
use Rattle.union_cols.proofs.tagged.tag.Goals as goal

pub union_tops-requires-clause-same : goal.union_tops-requires-clause-same
union_tops-requires-clause-same c =
    let none : tag_fault c.args.dense (length (children_of c.args.array)) (tree_items c.args.array) ≡ None = search rules in
    (tagged (typed_of c.args.typed.now) c.args.dense c.args.schema c.args.array c.requires.schema c.requires.types c.requires.chunk none).same

pub filled-requires-clause-fit : goal.filled-requires-clause-fit
filled-requires-clause-fit c =
    let none : tag_fault c.args.dense (length (children_of c.args.array)) (tree_items c.args.array) ≡ None = search rules in
    (tagged (typed_of c.args.typed.now) c.args.dense c.args.schema c.args.array c.requires.schema c.requires.types c.requires.chunk none).fits

pub returns-in-Ok-clause-checks : goal.returns-in-Ok-clause-checks
returns-in-Ok-clause-checks c =
    let typed = typed_of c.args.typed.now in
    let dense = c.args.dense in
    let none : tag_fault dense (length (children_of c.args.array)) (tree_items c.args.array) ≡ None = search rules in
    let checks = c.tagged_chunks_are_unions.ensures.checks dense typed c.args.schema c.args.array c.requires.schema c.requires.types c.requires.chunk none in
    let schema : c.filled.result.0 ≡ tagged_schema dense c.args.schema =
    c.filled.ensures.schema ∙ ap (λ t. with_children t (children_of c.args.schema)) c.in-Ok.ensures.schema in
    let array : c.filled.result.1 ≡ tagged_array dense typed c.args.array =
    c.filled.ensures.array ∙ ap (λ t. with_children t (cut_columns c.args.array)) c.in-Ok.ensures.array in
    subst (λ s. ChecksAsUnion (tagged_kinds dense typed) s c.filled.result.1) (sym schema)
    (subst (λ a. ChecksAsUnion (tagged_kinds dense typed) (tagged_schema dense c.args.schema) a) (sym array) checks)
