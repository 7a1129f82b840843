-- Validity buffers that reach to the window's end.
use Rattle.std.specs.Prelude.{ℕ, ◌*◌, ◌≤◌, List, length, ◌+◌, ◌/◌, nat_lt, if◌then◌else◌, take, drop}
use Rattle.std.specs.Prelude.{Option, Some, None}
use Rattle.raw_array.specs.promise.Members.{ArrayMembers}
use Rattle.layout_rules.specs.promise.Layout.{buffer, bytes, end, data_buffers, data_length, first, lengths_need}

-- ---- the buffers of views: validity, the views, data buffers, and the lengths of these

-- a validity buffer that is there has a bit for each place up to the window's end
abbrev pub IsLong : ℕ → Option (List ℕ) → Type 0
IsLong places None = Unit {0}
IsLong places (Some bytes) = places ≤ 8 * length bytes

abbrev pub IsLongIfPresent : ArrayMembers → Type 0
IsLongIfPresent a = IsLong (end a) (buffer a 0)

abbrev pub stored_bytes : ℕ → ArrayMembers → ℕ → List ℕ
stored_bytes width a i = take width (drop ((first a + i) * width) (bytes a 1))

abbrev pub bits_need : ℕ → ℕ
bits_need n = (n + 7) / 8

-- what a data buffer needs, and the lengths behind the last
abbrev pub named_need : ArrayMembers → ℕ → ℕ
named_need a k = if nat_lt k (data_buffers a) then data_length a k else lengths_need a
