-- How far tables were pushed, and what is added up.
use Rattle.std.proofs.Common.{arith, ◌≡◌, ◌∙◌, ◌≤◌, ◌<◌, ◌+◌, ◌++◌, ◌^◌, ℕ, List}
use Rattle.std.proofs.Common.{[], ◌∷◌, length, get_or, All, sym, ap, subst, inr, true}
use Rattle.std.specs.List.{AllByRecursion}
use Rattle.std.proofs.lemmas.Grind.{flat_map-append}
use Rattle.std.proofs.lemmas.List.{append-nil, append_assoc, get_or-map, length-map}
use Rattle.data_types.specs.FieldText.{IsValueOf}
use Rattle.data_types.specs.promise.Parts.{column_values}
use Rattle.data_types.specs.Parts.{joined_rows}
use Rattle.data_types.specs.promise.Table.{Column, Flat, Row}
use Rattle.data_types.specs.promise.Value.{Null}
use Rattle.raw_array.specs.promise.Members.{ArrayTree, Cost}
use Rattle.data_types.specs.promise.ColumnKinds.{type_of_columns}
use Rattle.data_types.specs.promise.KindTrees.{KindTree}
use Rattle.data_types.specs.KindTrees.{TypedOk}
use Rattle.layout_rules.specs.promise.Values.{rows_of}
use Rattle.layout_rules.specs.promise.Walk.{ChunkOk}
use Rattle.column_fill.proofs.Counts.{kids-long}
use Rattle.stage_model.specs.promise.Typing.{is_summed, no_column}
use Rattle.unit_pass.specs.declared.pass.TheConstants.{CHUNK}
use Rattle.data_types.specs.Kinds.{KindOk}
use Rattle.data_types.specs.declared.kind.DataType.{DataType}
use Rattle.stream_face.specs.Lawful.{AreItems, IsTable, LawfulColumns, LawfulTables, total_rows}
use Rattle.stages.specs.Steps.{IsNext}
use Rattle.total_stage.specs.Froms.{CanGoOn}
use Rattle.total_stage.specs.Sums.{AreSums, CanAdd, CanSum}
use Rattle.total_stage.specs.Totals.{IsSmallItem}
use Rattle.total_stage.specs.Fits.{CanTotal}
use Rattle.total_stage.specs.declared.numbers.Totals.{Totals}
use Rattle.total_stage.proofs.Fitting.{joined-long, picked-plain}
use Rattle.total_stage.proofs.SummedKinds.{item-small}

-- ---- the tables so far

pub joined-more : (tables : List (List Row)) (rows : List Row) → joined_rows (tables ++ rows ∷ []) ≡ joined_rows tables ++ rows
joined-more tables rows =
    flat_map-append (λ (rows : List Row). rows) tables (rows ∷ []) ∙ ap (λ (more : List Row). joined_rows tables ++ more) (append-nil rows)

-- one table more
pub gone-on : (sums made : List Totals) (picks : List ℕ) (before : List Column) (rows : List Row) (more : List (List Row))
    (can : CanGoOn sums picks before (rows ∷ more)) → AreSums made picks (joined_rows can.done ++ rows) → CanGoOn made picks before more
gone-on sums made picks before rows more can are = record {
  done = can.done ++ rows ∷ [];
  begun = inr (subst (AreSums made picks) (sym (joined-more can.done rows)) are);
  lawful = subst (LawfulTables before) (sym (append_assoc can.done (rows ∷ []) more)) can.lawful;
}

-- ---- the next table

behind-lawful : (columns : List Column) (tables : List (List Row)) (rows : List Row) (more : List (List Row))
    → AllByRecursion (IsTable columns) (tables ++ rows ∷ more) → IsTable columns rows
behind-lawful columns [] rows more lawful = lawful.0
behind-lawful columns (t ∷ tables) rows more lawful = behind-lawful columns tables rows more lawful.1

total-both : (tables more : List (List Row)) → total_rows (tables ++ more) ≡ total_rows tables + total_rows more
total-both [] more = omega arith
total-both (t ∷ tables) more = omega (arith, total-both tables more)

pub record IsNextTable (columns : List Column) (tables : List (List Row)) (rows : List Row) : Type 0 where
  pub table : IsTable columns rows
  pub few : length (joined_rows tables) + length rows ≤ 2 ^ 30

pub next-table : (columns : List Column) (tables : List (List Row)) (rows : List Row) (more : List (List Row)) → LawfulTables columns (tables ++ rows ∷ more)
    → IsNextTable columns tables rows
next-table columns tables rows more lawful = record {
  table = behind-lawful columns tables rows more lawful.tables;
  few = omega (arith, total-both tables (rows ∷ more), joined-long tables, lawful.rows);
}

small-at : (kind : DataType) (place : ℕ) (rows : List Row) (i : ℕ) → KindOk kind → is_summed (Flat kind) ≡ true → i < length rows
    → All (IsValueOf kind) (column_values place rows) → IsSmallItem (get_or (get_or rows i []) place Null)
small-at kind place rows i ok summed inside all =
    let long : length (column_values place rows) ≡ length rows = length-map rows (λ (row : Row). get_or row place Null) in
    item-small kind _ ok summed
    (subst (IsValueOf kind) (get_or-map (λ (row : Row). get_or row place Null) rows i [] Null inside) (all i Null (omega (arith, long, inside))))

-- a chunk of a table can be added
pub can-add : (picks : List ℕ) (typed : KindTree) (chunk : ArrayTree) (columns : List Column) (rows : List Row) → CanTotal picks columns
    → LawfulColumns columns → IsTable columns rows → length rows ≤ 2 ^ 30 → typed ≡ type_of_columns columns
    → rows_of (type_of_columns columns) chunk ≡ rows → ChunkOk (type_of_columns columns) chunk → TypedOk typed → CanAdd picks typed chunk
can-add picks typed chunk columns rows can lawful table few is rows_are ok types =
    subst (λ (t : KindTree). CanAdd picks t chunk) (sym is) (record {
      types = subst TypedOk is types;
      ok = ok;
      sum = subst (CanSum picks (type_of_columns columns)) (sym rows_are) (record {
        struct = tt;
        within = λ k small. omega (arith, kids-long columns, can.within k small);
        small = λ k i small inside.
            let here = picked-plain picks columns k can lawful.kinds small in
            let p = get_or picks k 0 in
            let items = subst (λ kind. AreItems kind (column_values p rows)) here.is (table.items p no_column (can.within k small)) in
            small-at here.kind p rows i here.ok.0 here.summed inside items.0;
        few = few;
      });
    })

-- what can be added of the next chunk
pub record IsAddable (picks : List ℕ) (typed : KindTree) (chunk : ArrayTree) (tables : List (List Row)) (rows : List Row) : Type 0 where
  pub can : CanAdd picks typed chunk
  pub few : length (joined_rows tables) + length (rows_of typed chunk) ≤ 2 ^ 30
  pub rows_are : rows_of typed chunk ≡ rows
  pub small : Cost chunk ≤ CHUNK

pub next-add : (picks : List ℕ) (columns : List Column) (tables : List (List Row)) (rows : List Row) (more : List (List Row)) (typed : KindTree)
    (chunk : ArrayTree) → CanTotal picks columns → LawfulTables columns (tables ++ rows ∷ more) → IsNext columns rows more typed chunk
    → IsAddable picks typed chunk tables rows
next-add picks columns tables rows more typed chunk can lawful here =
    let next = next-table columns tables rows more lawful in
    let long = ap (length {A = Row}) here.is.rows_are in
    record {
      can = can-add picks typed chunk columns rows can here.columns next.table (omega (arith, next.few)) here.typed_is here.is.rows_are here.is.ok here.types;
      few = (let same = ap (λ (t : KindTree). length (rows_of t chunk)) here.typed_is in omega (arith, long, same, next.few));
      rows_are = ap (λ (t : KindTree). rows_of t chunk) here.typed_is ∙ here.is.rows_are;
      small = here.is.small;
    }
