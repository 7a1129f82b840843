-- What totals that have begun still come to.
use Rattle.std.specs.Prelude.{◌+◌, ◌++◌, ◌∷◌, ℕ, zero, suc, ℤ, pos, ◌+ℤ◌, Bool, true, false, List, [], length, Option}
use Rattle.std.specs.List.{fold}
use Rattle.data_types.specs.Parts.{joined_rows}
use Rattle.data_types.specs.promise.Table.{Column, Row}
use Rattle.data_types.specs.promise.Value.{Value, Whole}
use Rattle.data_types.specs.declared.row_fault.RowFault.{RowFault}
use Rattle.stage_model.specs.promise.Stages.{at_end, extreme}
use Rattle.stage_model.specs.Stages.{greater, lesser, numbers_at, totals_row}
use Rattle.stream_face.specs.Lawful.{LawfulTables}
use Rattle.total_stage.specs.Sums.{HaveBegun}
use Rattle.total_stage.specs.declared.numbers.Totals.{Totals}

-- the number that a choice keeps of this many that were there and of more, and null where there is none
abbrev pub extreme_from : (ℤ → ℤ → ℤ) → ℕ → ℤ → List ℤ → Value
extreme_from choice zero first numbers = extreme choice numbers
extreme_from choice (suc count) first numbers = Whole (fold choice first numbers)

-- the values of totals and of more numbers
abbrev pub values_from : Totals → List ℤ → List Value
values_from t numbers =
    Whole (pos (t.count + length numbers)) ∷ Whole (fold ◌+ℤ◌ t.sum numbers) ∷ extreme_from lesser t.count t.least numbers
    ∷ extreme_from greater t.count t.greatest numbers ∷ []

abbrev pub row_from : List Totals → List ℕ → List Row → Row
row_from (t ∷ sums) (pick ∷ picks) rows = values_from t (numbers_at pick rows) ++ row_from sums picks rows
row_from _ _ rows = []

-- the row of totals that have begun and of more rows; where there are none yet, that of the rows
abbrev pub totals_from : List Totals → List ℕ → List Row → Row
totals_from [] picks rows = totals_row picks rows
totals_from (t ∷ sums) picks rows = row_from (t ∷ sums) picks rows

-- none have begun
abbrev pub none_begun : List Totals → Bool
none_begun [] = true
none_begun (t ∷ sums) = false

-- nothing once the chunk is given
abbrev pub ahead_from : List Totals → List ℕ → Bool → Option RowFault → List (List Row) → List (List Row)
ahead_from sums picks true ending tables = []
ahead_from sums picks false ending tables = at_end ending (totals_from sums picks (joined_rows tables) ∷ [])

-- the totals are of tables before those that come, and all of them are lawful
pub record CanGoOn (sums : List Totals) (picks : List ℕ) (before : List Column) (tables : List (List Row)) : Type 0 where
  pub done : List (List Row)
  pub begun : HaveBegun sums picks (joined_rows done)
  pub lawful : LawfulTables before (done ++ tables)
