-- A window on an array ("The Arrow C Data Interface", "The ArrowArray structure": length, null_count, offset).
use Rattle.std.specs.Prelude.{ℤ, pos, ◌^◌, ◌-◌, ◌+ℤ◌, ◌≤ℤ◌, Bool, ◌&&◌, if◌then◌else◌}
use Rattle.std.specs.Ordering.{int_eq}
use Rattle.tree_model.specs.promise.TreeParts.{IsLive}
use Rattle.raw_array.specs.promise.Members.{ArrayTree, members_of}
use Rattle.raw_array.specs.Members.{windowed}

-- the window from 0 on, of the array's own length
abbrev pub is_whole : ArrayTree → ℤ → ℤ → Bool
is_whole t off len = int_eq off (pos 0) && int_eq len (members_of t).length

-- the `len` items from item `off` on: the array itself, where those are all, and else the array with its offset grown
-- by `off`, with the length `len`, and with the null count 0 where it was 0 and -1 (not known) otherwise
abbrev pub Window : ArrayTree → ℤ → ℤ → ArrayTree
Window t off len = if is_whole t off len then t else windowed t off len

-- a live array that has these items
abbrev pub FitsWindow : ArrayTree → ℤ → ℤ → Type 0
FitsWindow t off len =
    IsLive t × (((off +ℤ len) ≤ℤ (members_of t).length) × ((((members_of t).offset +ℤ off) +ℤ len) ≤ℤ pos (2 ^ 63 - 1)))
