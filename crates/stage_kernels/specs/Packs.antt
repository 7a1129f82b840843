-- Columns that go under a new struct, behind those that stay.
use Rattle.std.specs.Prelude.{◌≡◌, ◌≢◌, ◌≤◌, ◌<◌, ◌++◌, ℕ, List, length, map, get_or}
use Rattle.data_types.specs.ColumnView.{column_of}
use Rattle.data_types.specs.Parts.{packed_columns, AreWithin}
use Rattle.data_types.specs.promise.Table.{Column}
use Rattle.data_types.specs.declared.kind.ColumnType.{ColumnType}
use Rattle.tree_model.specs.promise.TreeParts.{child_at, children_of}
use Rattle.raw_array.specs.promise.Members.{ArrayTree, members_of}
use Rattle.arr_move.specs.TreeActs.{Distinct, cut}
use Rattle.stage_model.specs.promise.Typing.{no_column}
use Rattle.stages.specs.Structs.{column_structs, most_structs}

-- different numbers of these columns, of which there are few structs; and the columns that are kept are those that stay, and
-- behind them a struct of the others
pub record PackFits (rest picks : List ℕ) (kept : List ColumnType) (before : List Column) : Type 0 where
  pub distinct : Distinct (rest ++ picks)
  pub stay : AreWithin (length before) rest
  pub go : AreWithin (length before) picks
  pub made : List ℕ
  pub columns : map column_of kept ≡ packed_columns no_column made rest picks before
  pub few : column_structs before ≤ most_structs

-- a column of a struct, cut to the items that the struct shows
abbrev pub column_in : ArrayTree → ℕ → ArrayTree
column_in t place = cut t (members_of t).offset (members_of t).length place

-- what is left of an array whose children of the first `count` of these numbers were moved out
pub record LeftOf (t : ArrayTree) (picks : List ℕ) (count : ℕ) (left : ArrayTree) : Type 0 where
  pub members : members_of left ≡ members_of t
  pub places : length (children_of left) ≡ length (children_of t)
  pub others : (p : ℕ) → ((k : ℕ) → k < count → get_or picks k 0 ≢ p) → child_at left p ≡ child_at t p
