use Rattle.std.proofs.Common.{◌≡◌, ◌∙◌, ap, sym, subst, List, map}
use Rattle.data_types.specs.ColumnForms.{KindsOk}
use Rattle.data_types.specs.promise.ColumnView.{members}
use Rattle.data_types.specs.ColumnView.{column_of, kind_of}
use Rattle.data_types.specs.promise.Parts.{member_columns}
use Rattle.data_types.specs.promise.Table.{Columns, Kind}
use Rattle.data_types.specs.declared.kind.ColumnType.{ColumnType}
use Rattle.data_types.proofs.ColumnCopies.{members-ok, struct-view}
use Rattle.stage_model.specs.promise.Typing.{struct_members}
use Rattle.stage_plan.proofs.AfterColumns.{members-back}
use Rattle.stage_plan.proofs.after.members.Goals as goal

pub returns-in-Columns-clause-are : goal.returns-in-Columns-clause-are
returns-in-Columns-clause-are c =
    let is : kind_of c.args.kind.now ≡ Columns (members (map column_of c.as_slice.result.now)) =
    ap kind_of c.in-Columns.is ∙ struct-view c.in-Columns.columns
    ∙ ap (λ (cs : List ColumnType). Columns (members (map column_of cs))) (sym c.as_slice.ensures.value) in
    sym (ap (λ (k : Kind). member_columns (struct_members k)) is ∙ members-back (map column_of c.as_slice.result.now))

pub returns-in-Columns-clause-kinds : goal.returns-in-Columns-clause-kinds
returns-in-Columns-clause-kinds c =
    let is : kind_of c.args.kind.now ≡ Columns (members (map column_of c.as_slice.result.now)) =
    ap kind_of c.in-Columns.is ∙ struct-view c.in-Columns.columns
    ∙ ap (λ (cs : List ColumnType). Columns (members (map column_of cs))) (sym c.as_slice.ensures.value) in
    members-ok c.as_slice.result.now (subst KindsOk is c.requires)
