use Rattle.std.proofs.Common.{rules}
use Rattle.std.specs.Prelude.{IfOk, IfErr, map}
use Rattle.std.specs.List.{AllZip}
use Rattle.tree_model.specs.promise.TreeParts.{children_of}
use Rattle.data_types.specs.promise.TypedView.{typed_of}
use Rattle.schema_check.specs.promise.Schemas.{TypedOf}
use Rattle.root_check.specs.KidAnswers.{IsFaultOfKids}
use Rattle.root_check.proofs.RootAnswers.{gives_kids}
use Rattle.root_check.proofs.kids.child_types.Goals as goal

pub returns-clause-only : goal.returns-clause-only
returns-clause-only c =
    let children = children_of c.args.schema.now in
    let found : IfOk c.types_of_children.result (λ kids. AllZip TypedOf children (map typed_of kids.items)) = search rules in
    let fault : IfErr c.types_of_children.result (IsFaultOfKids children) = search rules in
    gives_kids c.one_root_answer.ensures.kids children c.types_of_children.result found fault
