-- A number among the words of a command line.
use Rattle.std.specs.Prelude.{◌==◌, ◌&&◌, ◌||◌, not, ℕ, nat_le, Bool, false, List, [], ◌∷◌, length, if◌then◌else◌, Option, None, Some}
use Rattle.std.specs.Char.{is_ascii_digit}
use Rattle.std.specs.Str.{all_ascii_digits}
use Rattle.std.specs.Str.Parse.{digits_value}

-- a digit is first, which is `0` only as the whole text
abbrev pub begins_number : List ℕ → Bool
begins_number [] = false
begins_number (c ∷ cs) = is_ascii_digit c && (not (c == 48) || (length cs == 0))

-- the number that decimal digits without sign or leading zero spell, where it lies between these two
abbrev pub number_between : ℕ → ℕ → List ℕ → Option ℕ
number_between least most text =
    if (begins_number text && all_ascii_digits text) && (nat_le least (digits_value 10 text) && nat_le (digits_value 10 text) most)
    then Some (digits_value 10 text)
    else None
