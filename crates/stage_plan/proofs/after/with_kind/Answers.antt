use Rattle.std.proofs.Common.{◌≡◌, ◌∙◌, ◌++◌, [], ◌∷◌, ap, sym, get_or}
use Rattle.std.proofs.lemmas.List.{get_or-map, map-append}
use Rattle.data_types.specs.ColumnView.{column_of, kind_of}
use Rattle.data_types.specs.promise.Table.{Column, Kind}
use Rattle.stage_model.specs.promise.Typing.{column, no_column}
use Rattle.stage_plan.specs.PlanWords.{columns_in, kind_by}
use Rattle.stage_plan.proofs.AfterColumns.{one-replaced}
use Rattle.stage_plan.proofs.after.with_kind.Goals as goal

pub returns : goal.returns
returns c =
    let columns = c.args.columns.now in
    let place = c.args.place in
    let at = get_or (columns_in columns) place no_column in
    let is =
    c.in_ok-name.ensures ∙ ap column_of c.index-columns-place.is
    ∙ sym (get_or-map column_of columns place c.index-columns-place.result no_column c.requires.within) in
    let made : column c.in_ok-name.field-0.name (kind_of c.kind_by-kind.result) ≡ column at.name (kind_by c.args.dict at.kind) =
    ap (λ (k : Kind). column c.in_ok-name.field-0.name k) c.kind_by-kind.ensures ∙ ap (λ (x : Column). column x.name (kind_by c.args.dict x.kind)) is in
    one-replaced columns place (columns_in c.in_ok-after.after.items) (columns_in c.add.new.after.items) (columns_in c.add_columns.new.after.items)
    (column at.name (kind_by c.args.dict at.kind)) c.in_ok-after.ensures
    (ap columns_in c.in_ok-add.ensures
    ∙ map-append column_of c.in_ok-after.after.items (record { name = c.in_ok-name.field-0.name; kind = c.kind_by-kind.result } ∷ [])
    ∙ ap (λ (x : Column). columns_in c.in_ok-after.after.items ++ x ∷ []) made) c.in_ok-add_columns.ensures
