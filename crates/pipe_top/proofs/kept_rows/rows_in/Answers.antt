use Rattle.std.proofs.Common.{◌∙◌, ◌++◌, [], ◌∷◌, map, ap, sym}
use Rattle.std.proofs.lemmas.List.{map-append}
use Rattle.layout_rules.specs.promise.Values.{each, row_items}
use Rattle.arr_import.specs.Cols.{window_of}
use Rattle.pipe_top.specs.OwnedValues.{row_of}
use Rattle.pipe_top.proofs.Kept.{each-more}
use Rattle.pipe_top.proofs.kept_rows.rows_in.Goals as goal

pub loop-i-preserved : goal.loop-i-preserved
loop-i-preserved c =
    let w = window_of c.args.table.now in
    let i = c.loop-i.i in
    let f = row_items w.typed w.array in
    let row = c.in_ok-kept_fields.field-0 in
    ap (map row_of) c.in_ok-push.ensures.items
    ∙ map-append row_of c.loop-i.rows.items (row ∷ [])
    ∙ ap (λ rs. rs ++ row_of row ∷ []) c.loop-i.invariant
    ∙ ap (λ r. each f w.start i ++ r ∷ []) c.in_ok-kept_fields.ensures
    ∙ sym (each-more f w.start i)
