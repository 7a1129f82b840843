-- What contracts see of a column of indices with the column of its dictionary.
use Rattle.std.specs.Prelude.{ℕ, ◌+◌, Bool}
use Rattle.raw_array.specs.promise.Members.{members_of}
use Rattle.data_types.specs.promise.KindTrees.{kind_in}
use Rattle.layout_rules.specs.promise.Layout.{is_valid}
use Rattle.arr_import.specs.declared.indexed.Indexed.{Indexed}
use Rattle.arr_import.specs.Window.{Window, index_at}
use Rattle.arr_import.specs.Cols.{window_of}

-- the window of the indices, whose items are those that the column shows
abbrev pub shown_by : Indexed → Window
shown_by indexed = window_of indexed.indices

-- the window of the dictionary's items
abbrev pub entries_of : Indexed → Window
entries_of indexed = window_of indexed.entries

-- the index that stands for item i of a window
abbrev pub index_in : Window → ℕ → ℕ
index_in w i = index_at (kind_in w.typed) (members_of w.array) (w.start + i)

-- whether there is one: the array's own bit of item i isn't clear
abbrev pub has_index : Window → ℕ → Bool
has_index w i = is_valid (members_of w.array) (w.start + i)
