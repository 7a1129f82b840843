use Rattle.std.proofs.Common.{◌<◌, ◌++◌, ◌∷◌, ◌∙◌, [], List, None, length, get_or, refl, sym, subst, arith}
use Rattle.std.specs.List.{AllZip}
use Rattle.arr_import.specs.Cols.{window_of}
use Rattle.csv_write.specs.declared.chunk_text.ChunkColumn.{ChunkColumn}
use Rattle.csv_write.specs.declared.reading.Reading.{Reading}
use Rattle.field_codec.specs.declared.form.FieldForm.TheVariants as forms
use Rattle.csv_write.specs.Readings.{Reads}
use Rattle.csv_write.proofs.ChunkTexts.{child-there, first-all, first-push, zip-push}
use Rattle.csv_write.proofs.reading.plain_readings.Goals as goal

pub loop-k-preserved : goal.loop-k-preserved
loop-k-preserved c =
    let k = c.loop-k.k in
    let fs = c.args.forms.now in
    let w = window_of c.args.chunk.now in
    let inside : k < length fs = omega arith in
    let before = c.loop-k.invariant in
    let (columns, first, read) = before.read in
    let column : ChunkColumn = record { form = get_or fs k forms.Truths; items = c.child.result; entries = None } in
    record {
      count = omega (arith, c.push_reserved.ensures.len, before.count);
      room = omega (arith, c.push_reserved.ensures.capacity, before.room);
      read = (
        columns ++ column ∷ [],
        first-push columns column fs w k first (child-there column fs w k forms.Truths inside refl c.child.ensures.window c.child.ensures.fields),
        subst (λ rs. AllZip Reads rs (columns ++ column ∷ [])) (sym {A = List Reading} c.push_reserved.ensures.items)
            (zip-push Reads c.loop-k.readings.items columns c.in-Some.reading column read (c.in-Some.ensures None)),
      );
    }

pub returns : goal.returns
returns c =
    let (columns, first, read) = c.loop-k.invariant.read in
    let fs = c.args.forms.now in
    let w = window_of c.args.chunk.now in
    (columns, first-all columns fs w c.loop-k.k first (omega arith) (λ i. c.rows_are_whole.ensures i ∙ sym c.requires.count), read)
