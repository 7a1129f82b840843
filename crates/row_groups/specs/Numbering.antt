-- Distinct keys, numbered in the order in which they come. A null is a key that no text is.
use Rattle.std.specs.Prelude.{◌≡◌, ◌+◌, ◌<◌, ◌≤◌, ℕ, Bool, true, false, if◌then◌else◌, nat_eq, nat_lt, List, [], ◌∷◌, ◌++◌, length, get_or, Option, None, Some}
use Rattle.std.specs.Str.{bytes_eq}
use Rattle.item_keys.specs.Distinct.{Numbers}
use Rattle.row_groups.specs.declared.numbering.Numbering.{Numbering}

-- a text, or none for a null
abbrev pub Key : Type 0
Key = Option (List ℕ)

abbrev pub same_key : Key → Key → Bool
same_key None None = true
same_key (Some a) (Some b) = bytes_eq a b
same_key _ _ = false

-- the number of a text among texts and a null before which this many texts came
abbrev pub shifted : Option ℕ → ℕ → ℕ
shifted None t = t
shifted (Some null) t = if nat_lt t null then t else t + 1

-- the keys are these texts, in order, and the null
pub record AreKeys (null : Option ℕ) (texts : List (List ℕ)) (keys : List Key) : Type 0 where
  pub many : length keys ≡ shifted null (length texts)
  pub text : (t : ℕ) → t < length texts → get_or keys (shifted null t) None ≡ Some (get_or texts t [])
  pub null_is : (a : ℕ) → null ≡ Some a → (a ≤ length texts) × (get_or keys a None ≡ None)

-- these keys have numbers
pub record IsNumbering (numbering : Numbering) (keys : List Key) : Type 0 where
  pub texts : List (List ℕ)
  pub numbers : Numbers numbering.texts texts
  pub known : numbering.known ≡ length texts
  pub are : AreKeys numbering.null texts keys

-- a key has this number among them, or goes behind them
pub record IsNumber (keys : List Key) (key : Key) (number : ℕ) (new : Bool) : Type 0 where
  pub within : number ≤ length keys
  pub is : (k : ℕ) → k < length keys → same_key (get_or keys k None) key ≡ nat_eq k number
  pub new_is : new ≡ nat_eq number (length keys)

abbrev pub keys_with : List Key → Key → Bool → List Key
keys_with keys key new = if new then keys ++ key ∷ [] else keys

pub record IsNumbered (after : Numbering) (keys : List Key) (key : Key) (number : ℕ) (new : Bool) : Type 0 where
  pub number_is : IsNumber keys key number new
  pub keys_are : IsNumbering after (keys_with keys key new)
