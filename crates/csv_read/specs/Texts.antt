-- Fields that are UTF-8 (The Unicode Standard, "UTF-8").
use Rattle.std.specs.Prelude.{◌≡◌, ◌<◌, ℕ, true, [], length, get_or}
use Rattle.std.specs.Str.{is_utf8}
use Rattle.csv_model.specs.promise.Reading.{Record}

-- each field is UTF-8
abbrev pub AreTexts : Record → Type 0
AreTexts fields = (j : ℕ) → j < length fields → is_utf8 (get_or fields j []) ≡ true
