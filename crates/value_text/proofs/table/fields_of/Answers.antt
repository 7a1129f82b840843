use Rattle.std.proofs.Common.{◌∙◌, ◌++◌, ◌∷◌, [], All, List, map, ap, sym, subst}
use Rattle.std.proofs.lemmas.List.{map-append, take_more}
use Rattle.arr_import.specs.Cols.{window_of}
use Rattle.value_text.specs.Fields.{IsRead}
use Rattle.value_text.specs.declared.table.Field.{Field}
use Rattle.value_text.proofs.FieldColumns.{all-more, reads-as}
use Rattle.value_text.proofs.table.fields_of.Goals as goal

pub loop-column-preserved : goal.loop-column-preserved
loop-column-preserved c =
    let fields = c.loop-column.fields.items in
    let column = c.column-item.result in
    let field : Field = record { items = column; plain = c.plain.result } in
    let g = λ (f : Field). f.items in
    record {
      columns = ap (map g) c.in_ok-push.ensures.items ∙ map-append g fields (field ∷ []) ∙ (λ t. c.loop-column.invariant.columns t ++ c.column-item.is t ∷ [])
          ∙ sym (take_more c.args.columns.now c.loop-column.column-index column c.loop-column-test.true);
      read = subst (λ (fs : List Field). All IsRead fs) (sym c.in_ok-push.ensures.items)
          (all-more IsRead fields field c.loop-column.invariant.read
          (reads-as c.plain.result (window_of column) c.plain.ensures.some c.plain.ensures.stored c.plain.ensures.only));
    }
