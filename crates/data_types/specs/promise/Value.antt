-- Values of the columnar format ("Arrow Columnar Format", "Physical memory layout").
use Rattle.std.specs.Prelude.{ℕ, ℤ, Bool, true, false, List, [], ◌∷◌, length, map}
use Rattle.std.specs.List.{concat}

mutual
  -- null, a truth value, a whole number, the bits of a float, bytes, a list of values, a struct of values
  pub data Value : Type 0 where
    Null : Value
    Truth : Bool → Value
    Whole : ℤ → Value
    Bits : ℕ → Value
    Bytes : List ℕ → Value
    Items : Values → Value
    Fields : Values → Value

  -- a list of values, which antt wants as a type beside the values
  pub data Values : Type 0 where
    no_values : Values
    more_values : Value → Values → Values

abbrev pub values : List Value → Values
values [] = no_values
values (v ∷ vs) = more_values v (values vs)

abbrev pub is_null : Value → Bool
is_null Null = true
is_null _ = false

-- the bytes of a value; any other has none
abbrev pub bytes_of : Value → List ℕ
bytes_of (Bytes bytes) = bytes
bytes_of _ = []

-- how many bytes values have
abbrev pub byte_total : List Value → ℕ
byte_total values = length (concat (map bytes_of values))
