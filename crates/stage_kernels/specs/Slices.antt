-- What a slice keeps of chunks.
use Rattle.std.specs.Prelude.{◌≡◌, ◌-◌, ◌==◌, ℕ, pos, min, if◌then◌else◌, List, map, Option, None, Some}
use Rattle.data_types.specs.ColumnView.{column_of}
use Rattle.data_types.specs.promise.Table.{Column}
use Rattle.data_types.specs.declared.kind.ColumnType.{ColumnType}
use Rattle.raw_array.specs.promise.Members.{ArrayTree}
use Rattle.raw_array.specs.Windows.{Window}
use Rattle.layout_rules.specs.promise.Values.{tree_items}

-- the columns that are kept are those that come
pub record SliceFits (kept : List ColumnType) (before : List Column) : Type 0 where
  pub columns : map column_of kept ≡ before

-- how many of this many rows are kept, where the first `skip` aren't, nor more than `keep`
abbrev pub kept_count : ℕ → ℕ → ℕ → ℕ
kept_count skip keep count = min keep (count - skip)

-- a chunk with those of its rows that are kept; none where there are none
abbrev pub kept_part : ℕ → ℕ → ArrayTree → Option ArrayTree
kept_part skip keep chunk =
    let kept = kept_count skip keep (tree_items chunk) in
    if kept == 0 then None else Some (Window chunk (pos skip) (pos kept))
