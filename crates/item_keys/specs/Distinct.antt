-- Distinct texts that are lent, numbered in the order in which they come, and how they are found.
use Rattle.std.specs.Prelude.{◌≡◌, ◌≢◌, ◌⊎◌, ◌+◌, ◌<◌, ◌≤◌, ◌^◌, ◌-◌, ℕ, true, if◌then◌else◌, List, [], ◌∷◌, ◌++◌, length, map, get_or, Option, Some}
use Rattle.std.specs.BTreeMap.{BTreeMap, get}
use Rattle.std.specs.Cmp.Lexicographic.{slice_cmp}
use Rattle.std.specs.List.{position_or_len}
use Rattle.std.specs.Ordering.{nat_cmp, ordering_then}
use Rattle.std.specs.declared.cmp.Ordering.{Ordering}
use Rattle.std.specs.Str.{bytes_eq}
use Rattle.stage_model.specs.Dictionary.{has_bytes}
use Rattle.item_keys.specs.Slots.{hash_in, second_hash_in, slot_in}
use Rattle.item_keys.specs.declared.distinct.Distinct.{Distinct}
use denote.Ref.{Bor}

-- ---- distinct texts

-- with one more behind them, unless it is among them
abbrev pub texts_with : List (List ℕ) → List ℕ → List (List ℕ)
texts_with texts text = if has_bytes texts text then texts else texts ++ text ∷ []

-- the number of a text: their number, where it is none of them
abbrev pub number_of : List (List ℕ) → List ℕ → ℕ
number_of texts text = position_or_len (λ t. bytes_eq t text) texts

-- ---- how they are found

-- this many slots in a row are looked at
abbrev pub most_steps : ℕ
most_steps = 8

-- what a slot has: none, or one more than the number of a text
abbrev pub slot : List ℕ → List ℕ → ℕ → ℕ
slot slots text step = get_or slots (slot_in (length slots) (hash_in text) step) 0

-- the slots of a text before some step are taken
abbrev pub AreTaken : List ℕ → List ℕ → ℕ → Type 0
AreTaken slots text steps = (step : ℕ) → step < steps → slot slots text step ≢ 0

-- the text's number is in the first of its slots that was free
pub record IsPlaced (slots : List ℕ) (text : List ℕ) (number : ℕ) : Type 0 where
  pub step : ℕ
  pub within : step < most_steps
  pub is : slot slots text step ≡ number + 1
  pub before : AreTaken slots text step

-- the tree's keys are ordered by the second hash, and among those that are alike by the text
abbrev pub key_cmp : ℕ × Bor (List ℕ) → ℕ × Bor (List ℕ) → Ordering
key_cmp a b = ordering_then (nat_cmp a.0 b.0) (slice_cmp nat_cmp a.1.now b.1.now)

abbrev pub Tree : Type 0
Tree = BTreeMap (ℕ × Bor (List ℕ)) ℕ

-- the number of a text in the tree
abbrev pub found : Tree → Bor (List ℕ) → Option ℕ
found tree text = get key_cmp tree (second_hash_in text.now, text)

-- all its slots were taken, and its number is in the tree
pub record IsBeside (slots : List ℕ) (tree : Tree) (text : List ℕ) (number : ℕ) : Type 0 where
  pub taken : AreTaken slots text most_steps
  pub is : (key : Bor (List ℕ)) → bytes_eq key.now text ≡ true → found tree key ≡ Some number

-- the texts are these, and each is found by its number alone
pub record Numbers (distinct : Distinct) (texts : List (List ℕ)) : Type 0 where
  pub lends : map (λ (text : Bor (List ℕ)). text.now) distinct.texts.items ≡ texts
  pub some : 0 < length distinct.slots.items
  pub few : length texts < 2 ^ 32
  pub differ : (i j : ℕ) → i < length texts → j < length texts → bytes_eq (get_or texts i []) (get_or texts j []) ≡ true → i ≡ j
  pub numbered : (s : ℕ) → get_or distinct.slots.items s 0 ≤ length texts
  pub there : (i : ℕ) → i < length texts
      → IsPlaced distinct.slots.items (get_or texts i []) i ⊎ IsBeside distinct.slots.items distinct.beside (get_or texts i []) i
  pub beside : (key : Bor (List ℕ)) (n : ℕ) → found distinct.beside key ≡ Some n
      → (n < length texts) × (bytes_eq (get_or texts n []) key.now ≡ true)

-- there is a number for one text more
abbrev pub NumbersFew : Distinct → Type 0
NumbersFew distinct = (texts : List (List ℕ)) × Numbers distinct texts × (length texts < 2 ^ 32 - 1)
