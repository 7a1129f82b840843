use Rattle.std.proofs.Common.{◌≡◌, ◌∙◌, sym, ap, arith}
use Rattle.std.specs.Str.{bytes_eq}
use Rattle.data_types.specs.ColumnView.{column_of}
use Rattle.data_types.specs.promise.Table.{Column}
use Rattle.stage_plan.proofs.NamedPlaces.{all-behind, place_behind}
use Rattle.stage_plan.proofs.PlanLists.{position-map}
use Rattle.stage_plan.proofs.places.places_by_name.Goals as goal

pub returns : goal.returns
returns c = λ name.
    let columns = c.args.columns.now in
    let none : c.loop-place.place ≡ 0 = omega arith in
    c.loop-place.invariant.known name ∙ ap (λ k. place_behind columns k name.now) none ∙ all-behind columns name.now
    ∙ sym (position-map (λ (column : Column). bytes_eq column.name name.now) column_of columns)
