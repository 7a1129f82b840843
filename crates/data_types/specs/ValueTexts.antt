-- How long the text of an item may be.
use Rattle.std.specs.Prelude.{ℕ, List}
use Rattle.std.specs.List.{flat_map, join_with_byte}
use Rattle.data_types.specs.promise.ValueTexts.{byte_text}

-- ---- the items of an array

-- the most bytes of a text
abbrev pub text_limit : ℕ
text_limit = 2_147_483_648

abbrev pub bytes_text : List ℕ → List ℕ
bytes_text bytes = flat_map byte_text bytes

-- the texts of values with a comma between each two
abbrev pub joined : List (List ℕ) → List ℕ
joined texts = join_with_byte 44 texts
