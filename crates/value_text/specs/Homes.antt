-- Where the items of a column are once its dictionaries are followed.
use Rattle.std.specs.Prelude.{◌≡◌, ◌<◌, ◌≤◌, ℕ, Option, None, Some, get_or, vec_len}
use Rattle.data_types.specs.promise.Value.{Value, Null}
use Rattle.arr_import.specs.Cols.{window_of}
use Rattle.arr_import.specs.Window.{Window, item_at}
use Rattle.value_text.specs.declared.homes.Homes.{Homes}
use Rattle.value_text.specs.declared.homes.Places.{Places}
use Rattle.value_text.specs.declared.homes.Places.TheVariants as places

-- the place of item k
abbrev pub place_at : Places → ℕ → Option ℕ
place_at places.Same k = Some k
place_at (places.Own own) k = get_or own.items k None

-- the first n items have places
abbrev pub AreFound : Places → ℕ → Type 0
AreFound places.Same n = Unit {0}
AreFound (places.Own own) n = n ≤ vec_len own

-- a value is the item of a window at a place, and null where there is none
abbrev pub IsAt : Window → Option ℕ → Value → Type 0
IsAt w None value = value ≡ Null
IsAt w (Some place) value = (place < w.count) × (item_at w place ≡ value)

-- the first n items of a window are there
pub record ArePlaced (places : Places) (items w : Window) (n : ℕ) : Type 0 where
  pub reached : AreFound places n
  pub each : (k : ℕ) → k < n → IsAt items (place_at places k) (item_at w k)

-- all items of a window are
abbrev pub AreHomes : Homes → Window → Type 0
AreHomes homes w = ArePlaced homes.places (window_of homes.items) w w.count
