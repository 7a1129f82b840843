-- How many bytes the texts of values have. What is longer than a text may be counts one more than that.
use Rattle.std.specs.Prelude.{◌≡◌, ◌+◌, ◌*◌, ◌<◌, ◌≤◌, ℕ, zero, suc, min, List, [], ◌∷◌, get_or, length, vec_len}
use Rattle.tree_model.specs.promise.TreeData.{Released, trees}
use Rattle.tree_model.specs.promise.TreeParts.{child_at, children_of}
use Rattle.raw_array.specs.promise.Members.{ArrayTree, members_of}
use Rattle.data_types.specs.promise.KindTrees.{KindTree}
use Rattle.data_types.specs.promise.TypedView.{typed_of}
use Rattle.data_types.specs.TypedView.{kids_of}
use Rattle.data_types.specs.declared.typed.Typed.{Typed}
use Rattle.layout_rules.specs.promise.Values.{child_item, each, listed, readers, row_items, tree_items, value_at}
use Rattle.layout_rules.specs.promise.Layout.{first}
use Rattle.data_types.specs.promise.Value.{Value, Null, Items, Fields, values}
use Rattle.data_types.specs.declared.storage.Storage.{Storage}
use Rattle.data_types.specs.declared.storage.Storage.TheVariants as storages
use Rattle.data_types.specs.promise.ValueTexts.{value_text}
use Rattle.data_types.specs.ValueTexts.{text_limit}
use Rattle.value_text.specs.declared.lengths.FieldSums.{FieldSums}
use Rattle.value_text.specs.declared.lengths.Lengths.{Lengths}
use Rattle.value_text.specs.declared.lengths.Lengths.TheVariants as all

abbrev pub capped : ℕ → ℕ
capped count = min count (text_limit + 1)

abbrev pub text_length : Value → ℕ
text_length value = capped (length (value_text value))

-- the length at a place: the one that all items have, or the item's own
abbrev pub length_at : Lengths → ℕ → ℕ
length_at (all.Same count) i = count
length_at (all.Own lengths) i = get_or lengths.items i 0

-- the first n items have lengths
abbrev pub IsReached : Lengths → ℕ → Type 0
IsReached (all.Same count) n = Unit {0}
IsReached (all.Own lengths) n = n ≤ vec_len lengths

-- the lengths of the texts of the first n items, in order
pub record AreLengths (lengths : List ℕ) (item : ℕ → Value) (n : ℕ) : Type 0 where
  pub many : length lengths ≡ n
  pub each : (i : ℕ) → i < n → get_or lengths i 0 ≡ text_length (item i)

-- the same, where all items may have one
abbrev pub Tells : Lengths → (ℕ → Value) → ℕ → Type 0
Tells (all.Same count) item n = (i : ℕ) → i < n → count ≡ text_length (item i)
Tells (all.Own lengths) item n = AreLengths lengths.items item n

-- those of all items of each child of an array, as far as its first this many children
pub record TellsKids (lengths : List Lengths) (kids : List KindTree) (array : ArrayTree) (count : ℕ) : Type 0 where
  pub many : length lengths ≡ count
  pub each : (k : ℕ) (d : Lengths) → k < count
      → Tells (get_or lengths k d) (value_at (get_or kids k Released) (child_at array k)) (tree_items (child_at array k))

-- the first n items have lengths in each
abbrev pub AreReached : List Lengths → ℕ → Type 0
AreReached lengths n = (k : ℕ) (d : Lengths) → k < length lengths → IsReached (get_or lengths k d) n

-- at a place of each are those of the fields of a struct
pub record AreFieldLengths (lengths : List Lengths) (place : ℕ) (row : List Value) : Type 0 where
  pub many : length row ≡ length lengths
  pub each : (k : ℕ) (d : Lengths) → k < length lengths → length_at (get_or lengths k d) place ≡ text_length (get_or row k Null)

-- the length at a place of the field of this number
abbrev pub field_length : List Lengths → ℕ → ℕ → ℕ
field_length lengths place k = length_at (get_or lengths k (all.Same 0)) place

-- those of the first n fields together
abbrev pub first_fields : List Lengths → ℕ → ℕ → ℕ
first_fields lengths place zero = 0
first_fields lengths place (suc n) = first_fields lengths place n + field_length lengths place n

-- those of the fields of these numbers together
abbrev pub some_fields : List Lengths → ℕ → List ℕ → ℕ
some_fields lengths place [] = 0
some_fields lengths place (k ∷ ks) = field_length lengths place k + some_fields lengths place ks

-- the first n fields have a sum that is the same at each place, and with it the lengths of the fields of these numbers
pub record AreSummed (lengths : List Lengths) (n same : ℕ) (own : List ℕ) : Type 0 where
  pub sums : (place : ℕ) → capped (first_fields lengths place n) ≡ capped (same + some_fields lengths place own)
  pub below : (q : ℕ) → q < length own → get_or own q 0 < n

abbrev pub AreSums : List Lengths → FieldSums → Type 0
AreSums lengths sums = AreSummed lengths (length lengths) sums.same sums.own.items

-- a list or a struct
abbrev pub IsNested : Value → Type 0
IsNested (Items items) = Unit {0}
IsNested (Fields fields) = Unit {0}
IsNested _ = ⊥

-- items of nothing, or of no bytes
abbrev pub IsEmptyStorage : Storage → Type 0
IsEmptyStorage storages.Nothing = Unit {0}
IsEmptyStorage (storages.Sized size) = size ≡ 0
IsEmptyStorage _ = ⊥

-- fixed lists and structs
abbrev pub ArePartsStorage : Storage → Type 0
ArePartsStorage (storages.FixedLists size) = Unit {0}
ArePartsStorage storages.Children = Unit {0}
ArePartsStorage _ = ⊥

-- what a list or a struct is, where its type is stored so; nothing else is one
abbrev pub IsNestedAt : Storage → Typed → ArrayTree → ℕ → Value → Type 0
IsNestedAt (storages.Lists wide) typed array i value =
    value ≡ listed wide (readers (trees (kids_of typed))) (members_of array) (children_of array) i
IsNestedAt (storages.FixedLists size) typed array i value =
    value ≡ Items (values (each (child_item (readers (trees (kids_of typed))) (children_of array)) ((first (members_of array) + i) * size) size))
IsNestedAt storages.Children typed array i value = value ≡ Fields (values (row_items (typed_of typed) array i))
IsNestedAt _ typed array i value = ⊥
