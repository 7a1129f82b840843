use Rattle.std.proofs.Common.{◌≡◌, ◌∙◌, ◌<◌, ap, subst, sym, arith, false, length, get_or, List, ℕ}
use Rattle.std.specs.List.{list_all}
use Rattle.std.proofs.lemmas.List.{get_or-map, length-map}
use Rattle.data_types.specs.ColumnView.{column_of}
use Rattle.data_types.specs.promise.Parts.{picked}
use Rattle.data_types.specs.promise.Table.{Column}
use Rattle.stage_model.specs.promise.Typing.{no_column, takes}
use Rattle.stage_plan.specs.PlanWords.{columns_in}
use Rattle.stage_plan.proofs.PlanLists.{all-fails}
use Rattle.stage_plan.proofs.typing.takes_all.Goals as goal

pub returns-then-not-takes : goal.returns-then-not-takes
returns-then-not-takes c =
    let i = c.loop-place.place-index in
    let places = c.args.places.now in
    let columns = c.args.columns.now in
    let text = c.args.text.now in
    let item = c.index-columns-place.result in
    let within : i < length places = omega arith in
    let low : get_or places i 0 < length columns = subst (λ (n : ℕ). get_or places i 0 < n) (length-map columns column_of) (c.requires.within i within) in
    let is = get_or-map column_of columns (get_or places i 0) item no_column low in
    let fails : takes text (get_or (columns_in columns) (get_or places i 0) no_column).kind ≡ false =
    ap (λ (x : Column). takes text x.kind) is ∙ sym c.takes.ensures ∙ c.if-not-takes.true in
    sym (
    ap (λ (ps : List ℕ). list_all (λ x. takes text x.kind) (picked no_column ps (columns_in columns))) (sym c.requires.are)
    ∙ all-fails (λ x. takes text x.kind) (columns_in columns) places i 0 within fails
    )
