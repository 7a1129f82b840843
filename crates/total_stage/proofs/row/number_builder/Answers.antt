use Rattle.std.proofs.Common.{◌∷◌, [], sym, subst}
use Rattle.col_build.specs.Holding.{Holds}
use Rattle.csv_read.specs.Body.{HoldsKind}
use Rattle.data_types.specs.ColumnView.{column_of}
use Rattle.data_types.specs.promise.Table.{Kind}
use Rattle.data_types.specs.promise.Value.{Value}
use Rattle.data_types.specs.declared.kind.DataType.{DataType}
use Rattle.total_stage.specs.Rows.{IsFlat, Takes}
use Rattle.total_stage.specs.Totals.{number_value}
use Rattle.total_stage.proofs.HeldRow.{new-takes}
use Rattle.total_stage.proofs.row.number_builder.Goals as goal

pub flat_kind-kind-requires : goal.flat_kind-kind-requires
flat_kind-kind-requires c = subst IsFlat (sym c.requires.is) tt

pub push_item-requires : goal.push_item-requires
push_item-requires c =
    let holds = subst (λ (k : DataType). Holds c.new-builder.result k []) c.in_ok-clone_kind.ensures.same c.new-builder.ensures in
    subst (Takes c.new-builder.result) (sym c.number_item.ensures)
    (new-takes c.new-builder.result c.flat_kind-kind.result.now (column_of c.args.column.now) (number_value c.args.value) c.requires
    c.flat_kind-kind.ensures holds)

pub returns : goal.returns
returns c =
    let holds = subst (λ (k : DataType). Holds c.new-builder.result k []) c.in_ok-clone_kind.ensures.same c.new-builder.ensures in
    subst (λ (k : Kind). HoldsKind c.push_item.new.builder k (number_value c.args.value ∷ [])) (sym c.flat_kind-kind.ensures)
    (subst (λ (v : Value). Holds c.push_item.new.builder c.flat_kind-kind.result.now (v ∷ [])) c.number_item.ensures
    (c.in_ok-push_item.ensures c.flat_kind-kind.result.now [] holds))
