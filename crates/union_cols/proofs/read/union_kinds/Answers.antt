use Rattle.std.proofs.Common.{rules, arith}
use Rattle.std.proofs.lemmas.Grind.{common_steps}
use Rattle.union_cols.specs.declared.kinds.UnionTyped.{UnionTyped}
use Rattle.union_cols.specs.promise.UnionSchemas.{UnionOf}
use Rattle.union_cols.specs.UnionAnswers.{union_of}
use Rattle.union_cols.proofs.OneUnion.{union_valid}
use Rattle.union_cols.proofs.read.union_kinds.Goals as goal

pub returns-clause-valid : goal.returns-clause-valid
returns-clause-valid c =
    let typed : UnionTyped = record { dense = c.in_ok-dense.field-0.dense; ids = c.in_ok-dense.field-0.ids; kids = c.in_ok-kids.kids } in
    let is : UnionOf c.args.schema.now (union_of typed) = first_of (search rules, grind (arith, common_steps)) in
    union_valid c.args.schema.now (union_of typed) is c.in_ok-kids.ensures.valid
