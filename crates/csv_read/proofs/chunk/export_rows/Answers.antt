use Rattle.std.proofs.Common.{◌∙◌, ap, arith, length, sym, subst, All, w64}
use Rattle.std.proofs.lemmas.Int.{to_z-of_z}
use Rattle.std.proofs.lemmas.Slice.Zip.{AllZip-long}
use Rattle.unit_pass.specs.promise.Tally.{risen}
use Rattle.arr_export.specs.promise.ArrayTrees.{table_tree}
use Rattle.arr_export.specs.ArrayTrees.{IsColumn}
use Rattle.layout_rules.specs.promise.Layout.{natural}
use Rattle.csv_read.specs.Chunks.{IsColumnOf, all_blocks}
use Rattle.csv_read.proofs.EmptiedBuilders.{emptied-spent}
use Rattle.csv_read.proofs.RowsOfBuilders.{are-columns, blocks-are, columns-are, from-each, held-fit, held-some}
use Rattle.csv_read.proofs.chunk.export_rows.Goals as goal

pub column_arrays-requires-clause-holds : goal.column_arrays-requires-clause-holds
column_arrays-requires-clause-holds c =
    let held = c.requires.held in
    held-some 0 c.args.builders.now held.0 held.1 (from-each c.args.builders.now held.0 held.1 held.2.held)

pub export_table-requires-clause-few_columns : goal.export_table-requires-clause-few_columns
export_table-requires-clause-few_columns c =
    omega (arith, AllZip-long IsColumnOf c.args.builders.now c.in_ok-arrays.arrays.items c.in_ok-arrays.ensures.columns, c.requires.few)

pub export_table-requires-clause-columns : goal.export_table-requires-clause-columns
export_table-requires-clause-columns c =
    let held = c.requires.held in
    let arrays =
    columns-are 0 c.args.builders.now held.0 held.1 c.in_ok-arrays.arrays.items (from-each c.args.builders.now held.0 held.1 held.2.held)
    c.in_ok-arrays.ensures.columns in
    let fits = held-fit 0 c.args.builders.now held.0 held.1 (from-each c.args.builders.now held.0 held.1 held.2.held) in
    let same = to_z-of_z w64 c.args.rows c.ranges.rows in
    let rows = same ∙ held.3 in
    subst (λ rows. All (IsColumn (natural rows)) c.in_ok-arrays.arrays.items) (sym rows)
    (subst (All (IsColumn (length held.1))) (sym arrays) (are-columns 0 held.0 held.1 fits))

pub returns-in-Ok-clause-chunk : goal.returns-in-Ok-clause-chunk
returns-in-Ok-clause-chunk c columns values held count =
    let arrays =
    columns-are 0 c.args.builders.now columns values c.in_ok-arrays.arrays.items (from-each c.args.builders.now columns values held.held)
    c.in_ok-arrays.ensures.columns in
    let same = to_z-of_z w64 c.args.rows c.ranges.rows in
    let rows = same ∙ count in
    c.in-Ok.ensures.tree ∙ ap (λ rows. table_tree (natural rows) c.in_ok-arrays.arrays.items) rows ∙ ap (table_tree (length values)) arrays

pub returns-in-Ok-clause-blocks : goal.returns-in-Ok-clause-blocks
returns-in-Ok-clause-blocks c columns values held =
    let arrays =
    columns-are 0 c.args.builders.now columns values c.in_ok-arrays.arrays.items (from-each c.args.builders.now columns values held.held)
    c.in_ok-arrays.ensures.columns in
    c.in-Ok.ensures.blocks ∙ c.in_ok-arrays.ensures.blocks ∙ ap (risen c.args.pass.now.blocks) (ap all_blocks arrays ∙ blocks-are 0 columns values)

pub returns-in-Err-clause-spent : goal.returns-in-Err-clause-spent
returns-in-Err-clause-spent c = emptied-spent _ _ c.in_ok-arrays.ensures.emptied
