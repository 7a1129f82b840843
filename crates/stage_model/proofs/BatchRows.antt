-- The batches of rows join to the rows.
use Rattle.std.proofs.Common.{◌≡◌, ℕ, ◌-◌, List, [], ◌∷◌, refl, inl, inr}
use Rattle.std.proofs.lemmas.Bool.{cases_Bool}
use Rattle.std.specs.Prelude.{◌==◌, Ok}
use Rattle.std.specs.List.{onto_first}
use Rattle.csv_model.specs.promise.Batches.{batches_if, batches_in, cut, rows_before}
use Rattle.csv_model.specs.promise.Reading.{Record, body}
use Rattle.data_types.specs.Parts.{joined_rows}
use Rattle.data_types.specs.promise.Table.{Column, Row}
use Rattle.stage_model.specs.promise.Links.{Whole}
use Rattle.stage_model.specs.Links.{last_chunks}
use Rattle.stage_model.specs.promise.Stages.{table}
use Rattle.stage_model.specs.promise.Typing.{Stage}
use Rattle.stage_model.proofs.ChunkRows.{whole-rows}

onto-rows : (row : Row) (parts : List (List Row)) → joined_rows (onto_first row parts) ≡ row ∷ joined_rows parts
onto-rows row [] = refl
onto-rows row (part ∷ parts) = refl

pub cut-rows : (batch room : ℕ) (rows : List Row) → joined_rows (cut batch room rows) ≡ rows
cut-rows batch room [] = refl
cut-rows batch room (row ∷ rows) = elim (cases_Bool (room == 1)) [
  | inl last ↦ rw (last, cut-rows batch batch rows) refl
  | inr more ↦ rw (more, onto-rows row (cut batch (room - 1) rows), cut-rows batch (room - 1) rows) refl
]

pub batches-whole : (mark : List ℕ) (columns : List Column) (records : List Record) (batch : ℕ) (stages : List Stage) (rows : List Row)
    → body mark columns records ≡ Ok rows
    → joined_rows (last_chunks (batches_in mark columns records batch) stages).chunks ≡ (Whole (table columns rows) stages).rows
batches-whole mark columns records batch stages rows read =
    let source = batches_if (Ok rows) batch (rows_before mark 1 columns records) in
    let all = whole-rows columns source stages refl in
    let here : joined_rows (last_chunks source stages).chunks ≡ (Whole (table columns rows) stages).rows = rw (cut-rows batch batch rows) at all in
    rw read here
