use Rattle.std.proofs.Common.{◌≡◌, ◌+◌, ◌++◌, ◌∷◌, ◌∙◌, ◌<◌, ℕ, [], List, take, map, length, get_or, refl, ap, sym, subst, arith}
use Rattle.std.proofs.lemmas.List.{length-map, length-take, map_more}
use Rattle.std.proofs.Math.Seq.{take-length}
use Rattle.csv.specs.Writing.{default_writer, row_text}
use Rattle.data_types.specs.ColumnView.{column_of}
use Rattle.data_types.specs.declared.kind.ColumnType.{ColumnType}
use Rattle.csv_write.specs.Lines.{HasFields, HasLines}
use Rattle.csv_write.proofs.Lines.{no-fields}
use Rattle.csv_write.proofs.column_form.write_names.Goals as goal

abbrev names_of : List ColumnType → List (List ℕ)
names_of columns = map (λ column. column.name) columns

-- one more name
name-push : (columns : List ColumnType) (k : ℕ) (column : ColumnType) (name : List ℕ) → k < length columns
    → column ≡ get_or columns k column → name ≡ column.name
    → names_of (take k columns) ++ name ∷ [] ≡ names_of (take (k + 1) columns)
name-push columns k column name lt is same =
    ap (λ n. names_of (take k columns) ++ n ∷ []) (same ∙ ap (λ c. c.name) is) ∙ sym (map_more (λ column. column.name) columns k column lt)

names-are : (columns : List ColumnType) → names_of columns ≡ map (λ c. c.name) (map column_of columns)
names-are [] = refl
names-are (c ∷ cs) = ap (λ names. c.name ∷ names) (names-are cs)

pub loop-column-init : goal.loop-column-init
loop-column-init c text h = no-fields c.args.writer.now text h

pub loop-column-preserved : goal.loop-column-preserved
loop-column-preserved c text h =
    let k = c.loop-column.column-index in
    let columns = c.args.columns.now in
    let inside : k < length columns = omega arith in
    let long : length (names_of (take k columns)) ≡ length (take k columns) = length-map (take k columns) (λ column. column.name) in
    let few : length (names_of (take k columns)) < 18446744073709551615 = omega (arith, length-take k columns) in
    subst (λ fields. HasFields c.write_text.new.writer text fields)
    (name-push columns k c.column-item.result c.as_slice.result.now inside c.column-item.is c.as_slice.ensures)
    (c.in_ok-write_text.ensures text (names_of (take k columns)) few (c.loop-column.invariant text h))

pub returns : goal.returns
returns c text h =
    let columns = c.args.columns.now in
    let end : c.loop-column.column-index ≡ length columns = omega arith in
    let all : take c.loop-column.column-index columns ≡ columns = ap (λ n. take n columns) end ∙ take-length columns in
    subst (λ names. HasLines c.end_line.new.writer (text ++ row_text default_writer names)) (ap names_of all ∙ names-are columns)
    (c.in_ok-end_line.ensures text (names_of (take c.loop-column.column-index columns)) (c.loop-column.invariant text h))
