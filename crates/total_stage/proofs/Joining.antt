-- The totals of picked columns of more rows.
use Rattle.std.proofs.Common.{arith, ◌≡◌, ◌≢◌, ◌∙◌, ◌≤◌, ◌<◌, ◌+◌, ◌++◌, ℕ, zero, suc, List, [], ◌∷◌, length, get_or, set, refl, sym, ap, subst, below_more}
use Rattle.std.proofs.lemmas.List.{get_or-set_other, get_or-set_same, length-set, map-append}
use Rattle.std.proofs.lemmas.List.Elements.{filter_map-append}
use Rattle.std.specs.List.{filter_map}
use Rattle.data_types.specs.promise.Parts.{column_values}
use Rattle.data_types.specs.promise.Table.{Row}
use Rattle.data_types.specs.promise.Value.{Value, Null, Whole}
use Rattle.raw_array.specs.promise.Members.{ArrayTree}
use Rattle.data_types.specs.promise.KindTrees.{KindTree}
use Rattle.layout_rules.specs.promise.Values.{each, row_items}
use Rattle.arr_import.specs.Window.{Window, item_at, whole}
use Rattle.stage_model.specs.promise.Stages.{number_if}
use Rattle.stage_model.specs.Stages.{numbers_at}
use Rattle.total_stage.specs.Sums.{AreSums}
use Rattle.total_stage.specs.Totals.{AreTotals}
use Rattle.total_stage.specs.declared.numbers.Totals.{Totals}

-- the numbers of a column of rows and of more rows
pub numbers-both : (place : ℕ) (rows more : List Row) → numbers_at place (rows ++ more) ≡ numbers_at place rows ++ numbers_at place more
numbers-both place rows more =
    ap (filter_map number_if) (map-append (λ (row : Row). get_or row place Null) rows more)
    ∙ filter_map-append number_if (column_values place rows) (column_values place more)

pub values-each : (place : ℕ) (f : ℕ → Row) (g : ℕ → Value) (from n : ℕ) → ((i : ℕ) → get_or (f i) place Null ≡ g i)
    → column_values place (each f from n) ≡ each g from n
values-each place f g from zero same = refl
values-each place f g from (suc n) same =
    ap (λ (v : Value). v ∷ column_values place (each f (suc from) n)) (same from)
    ∙ ap (λ (vs : List Value). g from ∷ vs) (values-each place f g (suc from) n same)

pub fields-of : (w : Window) (typed : KindTree) (chunk : ArrayTree) (own : Window) (place : ℕ) → w ≡ whole typed chunk
    → ((i : ℕ) → get_or (row_items w.typed w.array (w.start + i)) place Null ≡ item_at own i)
    → (i : ℕ) → get_or (row_items typed chunk i) place Null ≡ item_at own i
fields-of w typed chunk own place is same i =
    let at = subst (λ (v : Window). (i : ℕ) → get_or (row_items v.typed v.array (v.start + i)) place Null ≡ item_at own i) is same i in
    let e : i ≡ 0 + i = omega arith in
    ap (λ (k : ℕ). get_or (row_items typed chunk k) place Null) e ∙ at

number-or-none : (v : Value) (vs : List Value) (n : ℕ) → length (filter_map number_if vs) ≤ n → length (filter_map number_if (v ∷ vs)) ≤ suc n
number-or-none (Whole number) vs n few = omega (arith, few)
number-or-none _ vs n few = omega (arith, few)

-- there are no more numbers than rows
pub few-at : (place : ℕ) (rows : List Row) → length (numbers_at place rows) ≤ length rows
few-at place [] = omega arith
few-at place (row ∷ rows) = number-or-none (get_or row place Null) (column_values place rows) (length rows) (few-at place rows)

-- ---- column by column

-- the totals of the first n columns are of more rows, the others not yet
pub record AreJoined (sums before : List Totals) (picks : List ℕ) (done : ℕ) (rows more : List Row) : Type 0 where
  pub count : length sums ≡ length picks
  pub new : (k : ℕ) → k < done → (none : Totals) → AreTotals (get_or sums k none) (numbers_at (get_or picks k 0) (rows ++ more))
  pub old : (k : ℕ) (none : Totals) → done ≤ k → k < length picks → AreTotals (get_or sums k none) (numbers_at (get_or picks k 0) rows)

pub joined-none : (sums : List Totals) (picks : List ℕ) (rows more : List Row) → AreSums sums picks rows → AreJoined sums sums picks 0 rows more
joined-none sums picks rows more are = record {
  count = are.count;
  new = λ k small none. absurd (omega (arith, small));
  old = λ k none past small. are.each k none small;
}

pub joined-all : (sums before : List Totals) (picks : List ℕ) (done : ℕ) (rows more : List Row) → done ≡ length picks
    → AreJoined sums before picks done rows more → AreSums sums picks (rows ++ more)
joined-all sums before picks done rows more all are = record {
  count = are.count;
  each = λ k none small. are.new k (omega (arith, all, small)) none;
}

-- one column more
pub joined-more : (sums before : List Totals) (picks : List ℕ) (done pick : ℕ) (rows more : List Row) (made : Totals) → done < length picks
    → pick ≡ get_or picks done 0 → AreJoined sums before picks done rows more
    → AreTotals made (numbers_at pick rows ++ numbers_at pick more)
    → AreJoined (set sums done made) before picks (done + 1) rows more
joined-more sums before picks done pick rows more made inside is are totals =
    let within : done < length sums = omega (arith, inside, are.count) in
    record {
      count = length-set sums done made ∙ are.count;
      new = below_more (λ (k : ℕ). (none : Totals) → AreTotals (get_or (set sums done made) k none) (numbers_at (get_or picks k 0) (rows ++ more))) done
          (λ k small none.
          let other : k ≢ done = omega (arith, small) in
          subst (λ t. AreTotals t (numbers_at (get_or picks k 0) (rows ++ more))) (sym (get_or-set_other sums done k made none other))
          (are.new k small none))
          (λ none.
          subst (λ t. AreTotals t (numbers_at (get_or picks done 0) (rows ++ more))) (sym (get_or-set_same sums done made none within))
          (subst (AreTotals made) (sym (numbers-both pick rows more) ∙ ap (λ place. numbers_at place (rows ++ more)) is) totals));
      old = λ k none past small.
          let other : k ≢ done = omega (arith, past) in
          subst (λ t. AreTotals t (numbers_at (get_or picks k 0) rows)) (sym (get_or-set_other sums done k made none other))
          (are.old k none (omega (arith, past)) small);
    }
