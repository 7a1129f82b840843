-- Items that are numbered by their values, in order of first appearance.
use Rattle.std.specs.Prelude.{◌≡◌, ◌≢◌, ◌<◌, ◌≤◌, ℕ, nat_eq, List, length, map, get_or, None}
use Rattle.data_types.specs.promise.Value.{Value}
use Rattle.data_types.specs.declared.storage.Storage.{Storage}
use Rattle.layout_rules.specs.promise.Values.{each}
use Rattle.data_types.specs.promise.Groups.{distinct, same}
use Rattle.row_groups.specs.ItemKeys.{HasKey}
use Rattle.row_groups.specs.Numbering.{IsNumbering, Key}
use Rattle.row_groups.specs.declared.numbering.Numbering.{Numbering}

-- this many items, the numbers of their values, and the first item of each number
pub record IsGrouped (item : ℕ → Value) (count : ℕ) (numbers firsts : List ℕ) : Type 0 where
  pub many : length numbers ≡ count
  pub few : length firsts ≤ count
  pub below : (j : ℕ) → j < count → get_or numbers j 0 < length firsts
  pub alike : (k j : ℕ) → k < length firsts → j < count → same (item (get_or firsts k 0)) (item j) ≡ nat_eq k (get_or numbers j 0)
  pub inside : (k : ℕ) → k < length firsts → get_or firsts k 0 < count
  pub own : (k : ℕ) → k < length firsts → get_or numbers (get_or firsts k 0) 0 ≡ k
  pub first : (k j : ℕ) → k < length firsts → j < get_or firsts k 0 → get_or numbers j 0 ≢ k
  pub values : map item firsts ≡ distinct (each item 0 count)

-- with the keys of the values
pub record IsWalked (numbering : Numbering) (storage : Storage) (item : ℕ → Value) (count : ℕ) (numbers firsts : List ℕ) : Type 0 where
  pub keys : List Key
  pub numbered : IsNumbering numbering keys
  pub grouped : IsGrouped item count numbers firsts
  pub many : length keys ≡ length firsts
  pub keyed : (k : ℕ) → k < length firsts → HasKey storage (item (get_or firsts k 0)) (get_or keys k None)
