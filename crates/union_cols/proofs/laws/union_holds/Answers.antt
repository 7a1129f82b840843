use Rattle.std.proofs.Common.{◌≡◌, length, sym, ◌∙◌}
use Rattle.std.proofs.lemmas.List.{length-map}
use Rattle.data_types.specs.promise.TypedView.{typed_of}
use Rattle.union_cols.specs.UnionAnswers.{union_of}
use Rattle.union_cols.specs.promise.UnionRules.{union_fault}
use Rattle.union_cols.proofs.Holding.{union_hold, kinds_live, none_of}
use Rattle.union_cols.proofs.laws.union_holds.Goals as goal

pub returns : goal.returns
returns c =
    let typed = c.args.typed.now in
    let u = union_of typed in
    let same : length u.ids ≡ length u.kids = c.requires.same ∙ sym (length-map typed.kids.items typed_of) in
    union_hold c.faultless_roots.ensures.own c.faultless_roots.ensures.children c.lawful_trees.ensures.root u c.args.array.now
    (kinds_live typed.kids.items) same (none_of (union_fault u c.args.array.now) c.requires.lawful)
