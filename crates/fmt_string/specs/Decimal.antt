-- The numbers of a decimal by their texts.
use Rattle.std.specs.Prelude.{ℕ, ℤ, pos, neg_ℤ, List, [], ◌∷◌, if◌then◌else◌, ◌==◌}
use Rattle.std.specs.Str.Parse.{digits_value}
use Rattle.fmt_string.specs.promise.FormatString.{Parts, PartsAre}

-- the number that digits write, which a minus may begin
abbrev pub signed_value : List ℕ → ℤ
signed_value [] = pos 0
signed_value (c ∷ digits) = if c == 45 then neg_ℤ (pos (digits_value 10 digits)) else pos (digits_value 10 (c ∷ digits))

-- the width that the text behind a scale writes
abbrev pub width_value : List ℕ → ℕ
width_value [] = 128
width_value (c ∷ digits) = digits_value 10 digits

abbrev pub parts : List ℕ → List ℕ → List ℕ → Parts
parts precision scale width = record { precision = precision; scale = scale; width = width }

-- the three texts are a decimal's numbers
abbrev pub AreParts : List ℕ → List ℕ → List ℕ → Type 0
AreParts precision scale width = PartsAre (parts precision scale width) (digits_value 10 precision) (signed_value scale) (width_value width)
