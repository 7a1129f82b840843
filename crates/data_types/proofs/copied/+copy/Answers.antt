use Rattle.std.proofs.Common.{◌≡◌, ◌∙◌, ◌<◌, ap, arith, sym, subst, rules, length, map, List}
use Rattle.data_types.specs.ColumnForms.{KindsOk}
use Rattle.data_types.specs.promise.ColumnView.{members}
use Rattle.data_types.specs.ColumnView.{column_of, kind_of}
use Rattle.data_types.specs.promise.Table.{Column, Columns}
use Rattle.data_types.specs.declared.kind.ColumnType.{ColumnType}
use Rattle.data_types.proofs.ColumnCopies.{column-size, kind_size, members-ok, struct-view}
use Rattle.data_types.proofs.copied.+copy.Goals as goal

pub column_kind-clone_columns-requires : goal.column_kind-clone_columns-requires
column_kind-clone_columns-requires t c =
    let is : kind_of c.args.kind.now ≡ Columns (members (map column_of c.as_slice.result.now)) =
    ap kind_of c.in-Columns.is ∙ struct-view c.in-Columns.columns
    ∙ ap (λ (cs : List ColumnType). Columns (members (map column_of cs))) (sym c.as_slice.ensures.value) in
    let size = ap kind_size is in
    let kinds = members-ok c.as_slice.result.now (subst KindsOk is c.requires) in
    search rules

pub clone_columns-clone_column-requires : goal.clone_columns-clone_column-requires
clone_columns-clone_column-requires t c =
    let item = c.column-item.result in
    let i = c.loop-column.column-index in
    let columns = c.args.columns.now in
    let within : i < length columns = omega arith in
    let size = column-size columns i item within in
    let is = ap (λ (x : ColumnType). kind_size (kind_of x.kind)) c.column-item.is in
    let kinds : KindsOk (kind_of item.kind) = subst (λ (x : ColumnType). KindsOk (kind_of x.kind)) (sym c.column-item.is) (c.requires i item within) in
    search rules

pub column_kind-returns-in_ok-columns-in-Columns : goal.column_kind-returns-in_ok-columns-in-Columns
column_kind-returns-in_ok-columns-in-Columns t c =
    let is : kind_of c.args.kind.now ≡ Columns (members (map column_of c.as_slice.result.now)) =
    ap kind_of c.in-Columns.is ∙ struct-view c.in-Columns.columns
    ∙ ap (λ (cs : List ColumnType). Columns (members (map column_of cs))) (sym c.as_slice.ensures.value) in
    c.struct_of.ensures ∙ ap (λ (cs : List Column). Columns (members cs)) c.in_ok-columns-in-Columns.ensures ∙ sym is
