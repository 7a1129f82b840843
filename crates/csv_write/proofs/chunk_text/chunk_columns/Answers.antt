use Rattle.std.proofs.Common.{◌<◌, ◌∷◌, [], List, length, get_or, refl, ap, sym, subst, arith}
use Rattle.std.specs.Prelude.{All}
use Rattle.std.proofs.lemmas.List.{length-append}
use Rattle.std.proofs.lemmas.List.Elements.{All-push}
use Rattle.arr_import.specs.Cols.{window_of}
use Rattle.csv_write.specs.declared.chunk_text.ChunkColumn.{ChunkColumn}
use Rattle.field_codec.specs.declared.form.FieldForm.TheVariants as forms
use Rattle.csv_write.specs.ChunkTexts.{HasEntries, IsChild}
use Rattle.csv_write.proofs.ChunkTexts.{child-there, children-push}
use Rattle.csv_write.proofs.chunk_text.chunk_columns.Goals as goal

pub loop-k-preserved : goal.loop-k-preserved
loop-k-preserved c =
    let k = c.loop-k.k in
    let fs = c.args.forms.now in
    let w = window_of c.args.chunk.now in
    let inside : k < length fs = omega arith in
    let column : ChunkColumn = record { form = get_or fs k forms.Truths; items = c.child-items.result; entries = c.text_entries.result } in
    record {
      count = omega (arith, ap length c.in_ok-push.ensures.items, length-append c.loop-k.columns.items (column ∷ []), c.loop-k.invariant.count);
      each_is = λ j d f lt.
          subst (λ ts. IsChild (get_or ts j d) (get_or fs j f) w j) (sym {A = List ChunkColumn} c.in_ok-push.ensures.items)
          (children-push c.loop-k.columns.items column fs w k c.loop-k.invariant.count
          (child-there column fs w k forms.Truths inside refl c.child-items.ensures.window c.child-items.ensures.fields) c.loop-k.invariant.each_is j d f lt);
      entries = subst (λ ts. All HasEntries ts) (sym {A = List ChunkColumn} c.in_ok-push.ensures.items)
          (All-push HasEntries c.loop-k.columns.items column c.loop-k.invariant.entries c.text_entries.ensures);
    }
