-- What the stages make of chunks joins to what they make of the table of all rows.
use Rattle.std.proofs.Common.{◌≡◌, ℕ, ◌+◌, Bool, true, false, List, [], ◌∷◌, ◌++◌, length, map, Option, None, refl, sym, arith, append-nil}
use Rattle.std.specs.Prelude.{get_or, if◌then◌else◌}
use Rattle.std.specs.List.{filter}
use Rattle.std.proofs.lemmas.List.{map-append}
use Rattle.std.proofs.lemmas.List.Elements.{filter-append}
use Rattle.csv_model.specs.promise.Batches.{Chunks}
use Rattle.data_types.specs.promise.Parts.{picked}
use Rattle.data_types.specs.Parts.{joined_rows, packed, unpacked}
use Rattle.data_types.specs.promise.Table.{Column, Row, Table}
use Rattle.data_types.specs.promise.Value.{Null}
use Rattle.data_types.specs.declared.row_fault.RowFault.{RowFault}
use Rattle.stage_model.specs.promise.Links.{Whole}
use Rattle.stage_model.specs.Links.{last_chunks, last_columns}
use Rattle.stage_model.specs.promise.Stages.{ChunkStage, TableStage, at_end, chunks_after, passes, rows_after, sliced, sliced_chunks, table, unless_empty}
use Rattle.stage_model.specs.Stages.{is_within}
use Rattle.stage_model.specs.promise.Typing.{Stage}
use Rattle.stage_model.specs.declared.stage.Step.{Step}
use Rattle.stage_model.specs.declared.stage.Step.TheVariants as steps

-- a step that treats the rows of two chunks in a row one after the other
each-rows : (f : List Row → List Row) → ((xs ys : List Row) → f (xs ++ ys) ≡ f xs ++ f ys) → f [] ≡ [] → (chunks : List (List Row))
    → joined_rows (map f chunks) ≡ f (joined_rows chunks)
each-rows f appends none [] = sym none
each-rows f appends none (rows ∷ chunks) = rw (each-rows f appends none chunks, appends rows (joined_rows chunks)) refl

-- ---- slice

cons-if : (b : Bool) (x : Row) (xs ys : List Row) → (if b then x ∷ xs else xs) ++ ys ≡ (if b then x ∷ (xs ++ ys) else xs ++ ys)
cons-if true x xs ys = refl
cons-if false x xs ys = refl

pub sliced-append : (off len number : ℕ) (xs ys : List Row)
    → sliced off len number (xs ++ ys) ≡ sliced off len number xs ++ sliced off len (number + length xs) ys
sliced-append off len number [] ys =
    let e : number + 0 ≡ number = omega arith in
    rw e refl
sliced-append off len number (x ∷ xs) ys =
    let more = sliced-append off len (number + 1) xs ys in
    let e : number + length (x ∷ xs) ≡ (number + 1) + length xs = omega arith in
    rw (more, e, cons-if (is_within off len number) x (sliced off len (number + 1) xs) (sliced off len ((number + 1) + length xs) ys)) refl

unless-rows : (rows : List Row) (chunks : List (List Row)) → joined_rows (unless_empty rows chunks) ≡ rows ++ joined_rows chunks
unless-rows [] chunks = refl
unless-rows (row ∷ rows) chunks = refl

pub sliced-rows : (off len number : ℕ) (chunks : List (List Row))
    → joined_rows (sliced_chunks off len number chunks) ≡ sliced off len number (joined_rows chunks)
sliced-rows off len number [] = refl
sliced-rows off len number (rows ∷ chunks) =
    rw (
      unless-rows (sliced off len number rows) (sliced_chunks off len (number + length rows) chunks),
      sliced-rows off len (number + length rows) chunks,
      sliced-append off len number rows (joined_rows chunks),
    ) refl

-- ---- a stage

one-rows : (ending : Option RowFault) (rows : List Row) → ending ≡ None → joined_rows (at_end ending rows) ≡ rows
one-rows ending rows end = rw end (append-nil rows)

pub step-rows : (step : Step) (ending : Option RowFault) (chunks : List (List Row)) → ending ≡ None
    → joined_rows (chunks_after step ending chunks) ≡ rows_after step (joined_rows chunks)
step-rows (steps.Select picks) ending chunks end = each-rows (map (picked Null picks)) (map-append (picked Null picks)) refl chunks
step-rows (steps.Slice off len) ending chunks end = sliced-rows off len 0 chunks
step-rows (steps.Filter column test constant) ending chunks end =
    each-rows (filter (λ row. passes test constant (get_or row column Null))) (filter-append (λ row. passes test constant (get_or row column Null))) refl chunks
step-rows (steps.Pack rest picks) ending chunks end = each-rows (map (packed rest picks)) (map-append (packed rest picks)) refl chunks
step-rows (steps.Unpack column) ending chunks end = each-rows (map (unpacked column)) (map-append (unpacked column)) refl chunks
step-rows (steps.Dict column) ending chunks end = each-rows (λ rows. rows) (λ xs ys. refl) refl chunks
step-rows (steps.Plain column) ending chunks end = each-rows (λ rows. rows) (λ xs ys. refl) refl chunks
step-rows (steps.Totals columns) ending chunks end = one-rows ending (rows_after (steps.Totals columns) (joined_rows chunks)) end

-- ---- stages in a row

pub whole-rows : (columns : List Column) (source : Chunks) (stages : List Stage) → source.ending ≡ None
    → joined_rows (last_chunks source stages).chunks ≡ (Whole (table columns (joined_rows source.chunks)) stages).rows
whole-rows columns source [] end = refl
whole-rows columns source (stage ∷ stages) end =
    let more = whole-rows stage.columns (ChunkStage stage.step source) stages end in
    let here = step-rows stage.step source.ending source.chunks end in
    rw here at more

pub whole-columns : (start : Table) (stages : List Stage) → (Whole start stages).columns ≡ last_columns start.columns stages
whole-columns start [] = refl
whole-columns start (stage ∷ stages) = whole-columns (TableStage stage start) stages
