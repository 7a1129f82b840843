use Rattle.std.proofs.Common.{◌∙◌, length, ap, sym, subst}
use Rattle.std.specs.Prelude.{All}
use Rattle.std.specs.List.{AllZip}
use Rattle.tree_model.specs.promise.TreeParts.{children_of}
use Rattle.arr_import.specs.Cols.{window_of}
use Rattle.csv_write.specs.ChunkTexts.{AreChildren, HasEntries}
use Rattle.csv_write.specs.CsvTexts.{IsFormOf}
use Rattle.csv_write.specs.Readings.{Reads}
use Rattle.csv_write.proofs.ChunkTexts.{kids-long, zip-long}
use Rattle.csv_write.proofs.csv_text.CsvText.add_any.Goals as goal

pub chunk_columns-requires-clause-count : goal.chunk_columns-requires-clause-count
chunk_columns-requires-clause-count c =
    let (mark, columns, written, h, is) = c.requires in
    ap length c.deref.ensures.value
    ∙ zip-long (λ form column. IsFormOf form column.kind) c.args.self.now.forms.items columns h.forms
    ∙ sym (kids-long columns)
    ∙ ap (λ t. length (children_of t)) (sym is)

pub readings-requires : goal.readings-requires
readings-requires c = subst (λ ts. All HasEntries ts) (sym c.deref-2.ensures.value) c.in_ok-columns.ensures.entries

pub add_read-requires : goal.add_read-requires
add_read-requires c =
    let (mark, columns, written, h, is) = c.requires in
    let ts = c.in_ok-columns.columns.items in
    let children = subst (λ fs. AreChildren ts fs (window_of c.args.chunk.now)) c.deref.ensures.value c.in_ok-columns.ensures.children in
    let read = subst (λ cs. AllZip Reads c.in_ok-readings.readings.items cs) c.deref-2.ensures.value c.in_ok-readings.ensures in
    (mark, columns, written, h, (ts, children, subst (λ rs. AllZip Reads rs ts) (sym c.deref-3.ensures.value) read))
