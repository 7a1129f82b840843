use Rattle.std.proofs.Common.{◌≡◌, ◌+◌, ◌++◌, ◌∷◌, ◌∙◌, ◌<◌, ℕ, [], List, take, length, get_or, ap, sym, subst, arith}
use Rattle.std.proofs.lemmas.List.{length-map, length-take, map_more}
use Rattle.std.proofs.Math.Seq.{take-length}
use Rattle.csv.specs.Writing.{default_writer, row_text}
use Rattle.csv_write.specs.declared.chunk_text.ChunkColumn.{ChunkColumn}
use Rattle.csv_write.specs.ChunkTexts.{HasItem, row_at, text_in}
use Rattle.csv_write.specs.Lines.{HasFields, HasLines}
use Rattle.csv_write.specs.Readings.{Reads}
use Rattle.csv_write.proofs.ChunkTexts.{zip-long}
use Rattle.csv_write.proofs.Lines.{no-fields}
use Rattle.csv_write.proofs.Readings.{zip-beside}
use Rattle.csv_write.proofs.rows.write_row.Goals as goal

-- one more column
row-push : (mark : List ℕ) (columns : List ChunkColumn) (i k : ℕ) (column : ChunkColumn) → k < length columns → column ≡ get_or columns k column
    → row_at mark (take k columns) i ++ text_in mark i column ∷ [] ≡ row_at mark (take (k + 1) columns) i
row-push mark columns i k column lt is =
    ap (λ c. row_at mark (take k columns) i ++ text_in mark i c ∷ []) is ∙ sym (map_more (text_in mark i) columns k column lt)

pub write_item-requires : goal.write_item-requires
write_item-requires c =
    let (columns, reads, has) = c.requires in
    let k = c.loop-reading.reading-index in
    let beside = zip-beside Reads c.args.readings.now columns k c.reading-item.result reads (omega arith) c.reading-item.is in
    (beside.item, beside.holds, subst (λ column. HasItem column c.args.i) (sym beside.is) (has k beside.item beside.inside))

pub loop-reading-init : goal.loop-reading-init
loop-reading-init c columns text reads has h = no-fields c.args.writer.now text h

pub loop-reading-preserved : goal.loop-reading-preserved
loop-reading-preserved c columns text reads has h =
    let k = c.loop-reading.reading-index in
    let beside = zip-beside Reads c.args.readings.now columns k c.reading-item.result reads (omega arith) c.reading-item.is in
    let item = subst (λ column. HasItem column c.args.i) (sym beside.is) (has k beside.item beside.inside) in
    let so_far = row_at c.args.mark.now (take k columns) c.args.i in
    let long : length so_far ≡ length (take k columns) = length-map (take k columns) (text_in c.args.mark.now c.args.i) in
    let same = zip-long Reads c.args.readings.now columns reads in
    let few : length so_far < 18446744073709551615 = omega (arith, long, length-take k columns, same) in
    subst (λ fields. HasFields c.write_item.new.writer text fields)
    (row-push c.args.mark.now columns c.args.i k beside.item beside.inside beside.is)
    (c.in_ok-write_item.ensures beside.item text so_far beside.holds item few (c.loop-reading.invariant columns text reads has h))

pub returns : goal.returns
returns c columns text reads has h =
    let end : c.loop-reading.reading-index ≡ length columns = omega (arith, zip-long Reads c.args.readings.now columns reads) in
    let all : take c.loop-reading.reading-index columns ≡ columns = ap (λ n. take n columns) end ∙ take-length columns in
    subst (λ cs. HasLines c.end_line.new.writer (text ++ row_text default_writer (row_at c.args.mark.now cs c.args.i))) all
    (c.in_ok-end_line.ensures text (row_at c.args.mark.now (take c.loop-reading.reading-index columns) c.args.i)
    (c.loop-reading.invariant columns text reads has h))
