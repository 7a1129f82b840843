-- How many bytes of a text stand as escapes, each of which has two bytes more than the byte that it stands for.
use Rattle.std.specs.Prelude.{◌≡◌, ◌+◌, ◌≤◌, ◌<◌, ℕ, if◌then◌else◌, List, [], ◌∷◌, Vec, length, get_or, take}
use Rattle.std.specs.Global.{Global}
use Rattle.raw_array.specs.promise.Members.{ArrayMembers}
use Rattle.layout_rules.specs.promise.Layout.{bytes, data_place}
use Rattle.data_types.specs.promise.ValueTexts.{is_plain}

abbrev pub escapes : List ℕ → ℕ
escapes [] = 0
escapes (byte ∷ bytes) = (if is_plain byte then 0 else 1) + escapes bytes

-- of the first bytes, for each number of them
pub record CountsEscapes (counts bytes : List ℕ) : Type 0 where
  pub many : length counts ≡ length bytes + 1
  pub each : (n : ℕ) → n ≤ length bytes → get_or counts n 0 ≡ escapes (take n bytes)

-- of the first data buffers of views, this many of them
pub record AreEscapeCounts (counts : List (Vec ℕ Global)) (own : ArrayMembers) (buffers : ℕ) : Type 0 where
  pub many : length counts ≡ buffers
  pub each : (k : ℕ) (d : Vec ℕ Global) → k < buffers → CountsEscapes (get_or counts k d).items (bytes own (data_place k))
