-- What totals that have begun still come to is what the totals of all rows are.
use Rattle.std.proofs.Common.{arith, ◌≡◌, ◌∙◌, ◌<◌, ◌+◌, ◌++◌, ℕ, suc, ℤ, pos, ◌+ℤ◌, true, false, List, [], ◌∷◌, length, get_or, refl, sym, ap, inl, inr}
use Rattle.std.specs.Prelude.{Bool, Option, Some}
use Rattle.std.specs.List.{AllByRecursion, fold}
use Rattle.std.proofs.lemmas.Int.{ints}
use Rattle.std.proofs.lemmas.List.{append_assoc, length-append}
use Rattle.std.proofs.lemmas.List.Sums.{fold-append}
use Rattle.data_types.specs.Parts.{joined_rows}
use Rattle.data_types.specs.promise.Table.{Row}
use Rattle.data_types.specs.promise.Value.{Whole}
use Rattle.data_types.specs.declared.row_fault.RowFault.{RowFault}
use Rattle.stage_model.specs.promise.Stages.{at_end, extreme, totals_values}
use Rattle.stage_model.specs.Stages.{greater, lesser, numbers_at, totals_row}
use Rattle.total_stage.specs.Froms.{ahead_from, extreme_from, none_begun, row_from, totals_from, values_from}
use Rattle.total_stage.specs.Sums.{AreSums, HaveBegun}
use Rattle.total_stage.specs.Totals.{AreTotals, IsSmall, highest, lowest}
use Rattle.total_stage.specs.declared.numbers.Totals.{Totals}
use Rattle.total_stage.proofs.Joining.{numbers-both}

extreme-from : (choice : ℤ → ℤ → ℤ) (top : ℤ) (count : ℕ) (first : ℤ) (before more : List ℤ) → ((b : ℤ) → IsSmall b → choice top b ≡ b)
    → AllByRecursion IsSmall before → count ≡ length before → first ≡ fold choice top before
    → extreme_from choice count first more ≡ extreme choice (before ++ more)
extreme-from choice top count first [] more law small many is = ap (λ (n : ℕ). extreme_from choice n first more) many
extreme-from choice top count first (b ∷ bs) more law small many is =
    let some : count ≡ suc (length bs) = omega (arith, many) in
    ap (λ (n : ℕ). extreme_from choice n first more) some
    ∙ ap Whole (ap (λ (z : ℤ). fold choice z more) is ∙ sym (fold-append choice (choice top b) bs more)
    ∙ ap (λ (z : ℤ). fold choice z (bs ++ more)) (law b small.0))

lesser-first : (b : ℤ) → IsSmall b → lesser highest b ≡ b
lesser-first b small = let high = small.high in grind (arith, ints)

greater-first : (b : ℤ) → IsSmall b → greater lowest b ≡ b
greater-first b small = let low = small.low in grind (arith, ints)

values-from : (t : Totals) (before more : List ℤ) → AreTotals t before → values_from t more ≡ totals_values (before ++ more)
values-from t before more are =
    let count : t.count + length more ≡ length (before ++ more) = omega (arith, are.count, length-append before more) in
    let sum : fold ◌+ℤ◌ t.sum more ≡ fold ◌+ℤ◌ (pos 0) (before ++ more) =
    ap (λ (z : ℤ). fold ◌+ℤ◌ z more) are.sum ∙ sym (fold-append ◌+ℤ◌ (pos 0) before more) in
    let least = extreme-from lesser highest t.count t.least before more lesser-first are.small are.count are.least in
    let greatest = extreme-from greater lowest t.count t.greatest before more greater-first are.small are.count are.greatest in
    λ i. Whole (pos (count i)) ∷ Whole (sum i) ∷ least i ∷ greatest i ∷ []

row-from : (sums : List Totals) (picks : List ℕ) (before more : List Row) → length sums ≡ length picks
    → ((k : ℕ) (none : Totals) → k < length picks → AreTotals (get_or sums k none) (numbers_at (get_or picks k 0) before))
    → row_from sums picks more ≡ totals_row picks (before ++ more)
row-from [] [] before more same each = refl
row-from [] (pick ∷ picks) before more same each = absurd (omega (arith, same))
row-from (t ∷ sums) [] before more same each = absurd (omega (arith, same))
row-from (t ∷ sums) (pick ∷ picks) before more same each =
    let first = values-from t (numbers_at pick before) (numbers_at pick more) (each 0 t (omega arith))
    ∙ ap totals_values (sym (numbers-both pick before more)) in
    let rest = row-from sums picks before more (omega (arith, same)) (λ k none small. each (suc k) none (omega (arith, small))) in
    λ i. first i ++ rest i

from-sums : (sums : List Totals) (picks : List ℕ) (before more : List Row) → AreSums sums picks before
    → totals_from sums picks more ≡ totals_row picks (before ++ more)
from-sums [] [] before more are = refl
from-sums [] (pick ∷ picks) before more are = absurd (omega (arith, are.count))
from-sums (t ∷ sums) picks before more are = row-from (t ∷ sums) picks before more are.count are.each

pub from-begun : (sums : List Totals) (picks : List ℕ) (before more : List Row) → HaveBegun sums picks before
    → totals_from sums picks more ≡ totals_row picks (before ++ more)
from-begun sums picks before more (inl none) = λ i. from-none i
  where
    from-none : totals_from sums picks more ≡ totals_row picks (before ++ more)
    from-none = ap (λ (s : List Totals). totals_from s picks more) none.0 ∙ ap (λ (rows : List Row). totals_row picks (rows ++ more)) (sym none.1)
from-begun sums picks before more (inr are) = from-sums sums picks before more are

-- rows that are added are ahead no longer
pub ahead-on : (sums made : List Totals) (picks : List ℕ) (given : Bool) (before rows : List Row) (more : List (List Row)) (ending : Option RowFault)
    → HaveBegun sums picks before → AreSums made picks (before ++ rows)
    → ahead_from sums picks given ending (rows ∷ more) ≡ ahead_from made picks given ending more
ahead-on sums made picks true before rows more ending begun are = refl
ahead-on sums made picks false before rows more ending begun are =
    let same : totals_from sums picks (rows ++ joined_rows more) ≡ totals_from made picks (joined_rows more) =
    from-begun sums picks before (rows ++ joined_rows more) begun
    ∙ ap (totals_row picks) (sym (append_assoc before rows (joined_rows more)))
    ∙ sym (from-sums made picks (before ++ rows) (joined_rows more) are) in
    ap (λ (row : Row). at_end ending (row ∷ [])) same

-- none have begun
pub none-is : (sums : List Totals) → none_begun sums ≡ true → sums ≡ []
none-is [] none = refl
none-is (t ∷ sums) none = absurd (cc)

-- nothing is ahead where the stream below ends at a record
pub refused-ahead : (sums : List Totals) (picks : List ℕ) (given : Bool) (fault : RowFault) → ahead_from sums picks given (Some fault) [] ≡ []
refused-ahead sums picks true fault = refl
refused-ahead sums picks false fault = refl
