use Rattle.std.proofs.Common.{rules, ◌≡◌, ◌<◌, ◌++◌, ◌∷◌, [], length, get_or}
use Rattle.tree_model.specs.promise.TreeParts.{children_of}
use Rattle.tree_model.specs.promise.TreeData.{Released}
use Rattle.data_types.specs.promise.TypedView.{typed_of}
use Rattle.data_types.specs.KindTrees.{TypedOk}
use Rattle.schema_check.specs.promise.Schemas.{TypedOf}
use Rattle.root_check.proofs.RootAnswers.{types_more, valid_more}
use Rattle.root_check.proofs.kids.types_of_children.Goals as goal

pub loop-i-preserved : goal.loop-i-preserved
loop-i-preserved c =
    let xs = children_of c.args.schema.now in
    let items = c.loop-i.kids.items in
    let more = c.push.new.self.items in
    let kid = c.in_ok-kid.kid in
    let inside : c.loop-i.i < length xs = search rules in
    let grown : more ≡ items ++ kid ∷ [] = search rules in
    let one : TypedOf (get_or xs c.loop-i.i Released) (typed_of kid) = search rules in
    let valid : TypedOk (typed_of kid) = search rules in (
      types_more xs c.loop-i.i items more kid inside c.loop-i.invariant.0 one grown,
      valid_more items more kid c.loop-i.invariant.1 valid grown,
    )
