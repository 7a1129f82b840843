-- Where the window of a slice begins and ends in a chunk.
use Rattle.std.specs.Prelude.{ℕ, ◌+◌, ◌-◌, min, ℤ, pos, ◌+ℤ◌, Bool, ◌&&◌, nat_lt, nat_le, List, int_lt, if◌then◌else◌}
use Rattle.std.specs.List.{filter_map, flat_map, fold}
use Rattle.data_types.specs.promise.Parts.{column_values}
use Rattle.data_types.specs.promise.Table.{Row}
use Rattle.stage_model.specs.promise.Stages.{number_if, totals_values}

-- ---- slice

-- where the window begins and ends among this many rows, the first of which has this number
abbrev pub window_start : ℕ → ℕ → ℕ → ℕ
window_start off number count = min (off - number) count

abbrev pub window_end : ℕ → ℕ → ℕ → ℕ → ℕ
window_end off len number count = min ((off + len) - number) count

-- the number lies in the window
abbrev pub is_within : ℕ → ℕ → ℕ → Bool
is_within off len number = nat_le off number && nat_lt number (off + len)

-- the numbers of a column, without its nulls
abbrev pub numbers_at : ℕ → List Row → List ℤ
numbers_at place rows = filter_map number_if (column_values place rows)

abbrev pub sum_of : List ℤ → ℤ
sum_of numbers = fold ◌+ℤ◌ (pos 0) numbers

-- the same of each of these columns
abbrev pub totals_row : List ℕ → List Row → Row
totals_row columns rows = flat_map (λ place. totals_values (numbers_at place rows)) columns

abbrev pub lesser : ℤ → ℤ → ℤ
lesser a b = if int_lt b a then b else a

abbrev pub greater : ℤ → ℤ → ℤ
greater a b = if int_lt a b then b else a
