-- The totals of numbers, in the making.
use Rattle.std.specs.Prelude.{◌≡◌, ℕ, ◌+◌, ◌-◌, ◌<◌, ◌≤◌, ◌^◌, ℤ, pos, negsuc, ◌+ℤ◌, ◌≤ℤ◌, List, length, Option, None, Some}
use Rattle.std.specs.List.{AllByRecursion, filter_map, fold}
use Rattle.data_types.specs.promise.Value.{Value, Null, Whole}
use Rattle.layout_rules.specs.promise.Values.{each}
use Rattle.arr_import.specs.Plain.{ShowsItems}
use Rattle.arr_import.specs.Window.{Window, item_at}
use Rattle.arr_import.specs.declared.plain.Plain.{Plain}
use Rattle.stage_model.specs.promise.Stages.{number_if}
use Rattle.stage_model.specs.Stages.{greater, lesser, sum_of}
use Rattle.total_stage.specs.declared.numbers.Totals.{Totals}

-- no number of a column that is totalled is larger in size
abbrev pub largest : ℕ
largest = 10 ^ 28

pub record IsSmall (number : ℤ) : Type 0 where
  pub low : pos 0 ≤ℤ (number +ℤ pos largest)
  pub high : number ≤ℤ pos largest

-- of a number; any other item is small
abbrev pub IsSmallItem : Value → Type 0
IsSmallItem (Whole number) = IsSmall number
IsSmallItem _ = Unit {0}

-- the highest and the lowest number that is computed with
abbrev pub highest : ℤ
highest = pos (2 ^ 127 - 1)

abbrev pub lowest : ℤ
lowest = negsuc (2 ^ 127 - 1)

-- these are the totals of these numbers, which are small; an extreme of none is past all numbers
pub record AreTotals (totals : Totals) (numbers : List ℤ) : Type 0 where
  pub small : AllByRecursion IsSmall numbers
  pub count : totals.count ≡ length numbers
  pub sum : totals.sum ≡ sum_of numbers
  pub least : totals.least ≡ fold lesser highest numbers
  pub greatest : totals.greatest ≡ fold greater lowest numbers

-- the numbers among this many items of a window, from one on
abbrev pub numbers_in : Window → ℕ → ℕ → List ℤ
numbers_in w from count = filter_map number_if (each (item_at w) from count)

-- a column that is read by its places shows the items of a window; this many of them are there, and none is too large
pub record ShowsNumbers (items : Plain) (w : Window) (to : ℕ) : Type 0 where
  pub shows : ShowsItems items w.count (item_at w)
  pub inside : to ≤ w.count
  pub small : (i : ℕ) → i < w.count → IsSmallItem (item_at w i)

-- a number, or null
abbrev pub number_value : Option ℤ → Value
number_value None = Null
number_value (Some number) = Whole number
