-- What the slots of a text say of it.
use Rattle.std.specs.Prelude.{◌≡◌, ◌<◌, ℕ, false, true, List, [], length, get_or}
use Rattle.std.specs.Str.{bytes_eq}
use Rattle.stage_model.specs.Dictionary.{has_bytes}
use Rattle.item_keys.specs.Distinct.{AreTaken, IsPlaced, most_steps}
use Rattle.item_keys.specs.Slots.{hash_in, slot_in}
use Rattle.item_keys.specs.declared.distinct.Distinct.{Distinct}
use Rattle.item_keys.specs.declared.distinct.Place.{Place}
use Rattle.item_keys.specs.declared.distinct.Place.TheVariants as places

-- a text that is new, and the first of its slots that is free
pub record IsFree (distinct : Distinct) (texts : List (List ℕ)) (text : List ℕ) (at : ℕ) : Type 0 where
  pub new : has_bytes texts text ≡ false
  pub step : ℕ
  pub within : step < most_steps
  pub is : at ≡ slot_in (length distinct.slots.items) (hash_in text) step
  pub inside : at < length distinct.slots.items
  pub free : get_or distinct.slots.items at 0 ≡ 0
  pub before : AreTaken distinct.slots.items text step

-- its slots are taken, by none of the texts that is the same
pub record IsFull (distinct : Distinct) (texts : List (List ℕ)) (text : List ℕ) : Type 0 where
  pub taken : AreTaken distinct.slots.items text most_steps
  pub others : (i : ℕ) → i < length texts → IsPlaced distinct.slots.items (get_or texts i []) i → bytes_eq (get_or texts i []) text ≡ false

abbrev pub IsSearched : Distinct → List (List ℕ) → List ℕ → Place → Type 0
IsSearched distinct texts text (places.At number) = (number < length texts) × (bytes_eq (get_or texts number []) text ≡ true)
IsSearched distinct texts text (places.Free at) = IsFree distinct texts text at
IsSearched distinct texts text places.Full = IsFull distinct texts text
