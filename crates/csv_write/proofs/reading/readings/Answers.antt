use Rattle.std.proofs.Common.{◌≡◌, ◌+◌, ◌++◌, ◌∷◌, ◌∙◌, ◌<◌, [], List, take, length, ap, sym, subst, arith}
use Rattle.std.specs.List.{AllZip}
use Rattle.std.proofs.lemmas.List.{take_more}
use Rattle.csv_write.specs.ChunkTexts.{HasEntries}
use Rattle.csv_write.specs.Readings.{Reads}
use Rattle.csv_write.specs.declared.reading.Reading.{Reading}
use Rattle.csv_write.proofs.ChunkTexts.{zip-push}
use Rattle.csv_write.proofs.reading.readings.Goals as goal

pub reading_of-requires : goal.reading_of-requires
reading_of-requires c =
    let k = c.loop-column.column-index in
    let column = c.column-item.result in
    subst HasEntries (sym c.column-item.is) (c.requires k column (omega arith))

pub loop-column-preserved : goal.loop-column-preserved
loop-column-preserved c =
    let k = c.loop-column.column-index in
    let columns = c.args.columns.now in
    let column = c.column-item.result in
    let readings = c.loop-column.readings.items in
    let inside : k < length columns = omega arith in
    let more : take (k + 1) columns ≡ take k columns ++ column ∷ [] =
    take_more columns k column inside ∙ ap (λ c. take k columns ++ c ∷ []) (sym c.column-item.is) in
    subst (λ rs. AllZip Reads rs (take (k + 1) columns)) (sym {A = List Reading} c.in_ok-push.ensures.items)
    (subst (λ cs. AllZip Reads (readings ++ c.reading_of.result ∷ []) cs) (sym more)
    (zip-push Reads readings (take k columns) c.reading_of.result column c.loop-column.invariant c.reading_of.ensures))
