use Rattle.std.proofs.Common.{◌+◌, ◌++◌, ◌∷◌, ◌∙◌, ◌<◌, [], take, map, length, ap, sym, subst, arith}
use Rattle.std.proofs.lemmas.List.{get_or-map, length-map, map_more}
use Rattle.data_types.specs.ColumnView.{column_of}
use Rattle.csv_write.specs.CsvTexts.{AreFormsOf, IsFormOf}
use Rattle.field_codec.specs.TextColumns.{HasTexts}
use Rattle.csv_write.proofs.ChunkTexts.{zip-push}
use Rattle.csv_write.proofs.column_form.column_forms.Goals as goal

pub column_form-requires : goal.column_form-requires
column_form-requires c =
    let k = c.loop-column.column-index in
    let columns = c.args.columns.now in
    let column = c.column-item.result in
    let inside : k < length columns = omega arith in
    let there : k < length (map column_of columns) = omega (arith, inside, length-map columns column_of) in
    subst (λ c. HasTexts c.kind) (get_or-map column_of columns k column (column_of column) inside ∙ ap column_of (sym c.column-item.is))
    (c.requires k (column_of column) there)

pub loop-column-preserved : goal.loop-column-preserved
loop-column-preserved c =
    let k = c.loop-column.column-index in
    let columns = c.args.columns.now in
    let column = c.column-item.result in
    let forms = c.loop-column.forms.items in
    let inside : k < length columns = omega arith in
    let more = map_more column_of columns k column inside ∙ ap (λ c. map column_of (take k columns) ++ column_of c ∷ []) (sym c.column-item.is) in
    subst (λ fs. AreFormsOf fs (map column_of (take (k + 1) columns))) (sym c.in_ok-push.ensures.items)
    (subst (λ cs. AreFormsOf (forms ++ c.column_form.result ∷ []) cs) (sym more)
    (zip-push (λ form column. IsFormOf form column.kind) forms (map column_of (take k columns)) c.column_form.result (column_of column)
    c.loop-column.invariant c.column_form.ensures))
